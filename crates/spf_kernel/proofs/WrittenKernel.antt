-- A kernel is written again: the words that its tree is printed as are read as the same tree, with notes that tell the same.
use Rattle.spf_kernel.proofs.Common.{◌≡◌, ℕ, List, ◌++◌, flat_map, refl, ap, sym, subst, codes, append_assoc, bundle_words, Derivation, Lexed, Kind, small_fixed, Holds, in_words, RawIx, RawDecl, RawLoop, RawKernel, Tree, TreeNames, facts_of, Names, names_of, decl_notes, head_notes, words_of, tree_of, names_in, Leaves, loop_notes, kernel_notes, words_with}
use Rattle.spf_kernel.specs.Productions as syntax
use Rattle.spf_kernel.proofs.NamedLists.{params_found, tables_found, arrays_found}
use Rattle.spf_kernel.proofs.Written.{IsLeaf, Source, shown, Meaning, AreFit, IsWritten, AreWritten, same_by}
use Rattle.spf_kernel.proofs.WrittenDeclarations.{a_head, decl_as, decl_written}
use Rattle.spf_kernel.proofs.WrittenLoops.{loop_as, loop_written}
use Rattle.spf_kernel.proofs.WrittenParts.{◌&◌, led_by, ended_by, repeated, made_of}
use Rattle.spf_kernel.proofs.WrittenStatements.{semicolon, open_brace, close_brace}

module _ (s : Source) where
  abbrev names : Names
  names = names_of s.facts

  -- with names printed so
  abbrev kernel_as : (Tree → List (List ℕ)) → Meaning RawKernel Tree
  kernel_as words = record { means = tree_of s.texts names; means_again = tree_of s.written names; notes = kernel_notes; notes_again = kernel_notes; words = words }

  abbrev raw_of : List RawDecl × (RawIx × List RawLoop) → RawKernel
  raw_of x = record { decls = x.0; steps = x.1.0; loops = x.1.1 }

  all_notes : (raw : RawKernel) → kernel_notes raw ≡ flat_map decl_notes raw.decls ++ (head_notes raw.steps ++ flat_map loop_notes raw.loops)
  unfolding kernel_notes
  all_notes raw = append_assoc (flat_map decl_notes raw.decls) (head_notes raw.steps) (flat_map loop_notes raw.loops)

  -- by the numbers that the notes give them
  kernel_written : AreWritten s syntax.kernel (kernel_as (words_with (shown names)))
  unfolding syntax.kernel
  kernel_written =
      made_of (led_by (small_fixed bundle_words Kind.Kernel (codes "kernel") refl refl) (led_by open_brace (repeated (record { form = syntax.decl; of = decl_as s; again = decl_written s }) & led_by (small_fixed bundle_words Kind.Steps (codes "steps") refl refl) (a_head s & led_by semicolon (ended_by close_brace (repeated (record { form = syntax.one_loop; of = loop_as s; again = loop_written s }))))))) (kernel_as (words_with (shown names)))
      raw_of
      (record {
        fit = λ r. subst (AreFit s) (all_notes (raw_of r));
        words = λ r fit. refl;
        means = λ r again same i. record { decls = (same i).0; steps = (same i).1.0; loops = (same i).1.1 };
        same = λ r again same facts. same_by s.texts s.written (all_notes (raw_of again)) (all_notes (raw_of r)) facts;
      })

module _ (texts written : List (List ℕ)) (raw : RawKernel) where
  abbrev pub source_of : Source
  source_of = record { texts = texts; written = written; facts = facts_of texts (kernel_notes raw) }

  abbrev pub kernel_names : Names
  kernel_names = names_of (facts_of texts (kernel_notes raw))

  -- a kernel, with names printed by the numbers that its own declarations give them
  abbrev pub whole : Meaning RawKernel Tree
  whole = record { means = tree_of texts kernel_names; means_again = tree_of written kernel_names; notes = kernel_notes; notes_again = kernel_notes; words = words_of }

  -- the names that the declarations give are those that are declared
  names_shown : names_in (tree_of texts kernel_names raw).decls ≡ shown kernel_names
  names_shown = λ i. record {
    params = sym (params_found texts kernel_names raw) i;
    tables = sym (tables_found texts kernel_names raw) i;
    arrays = sym (arrays_found texts kernel_names raw) i;
  }

  words_shown : words_of (tree_of texts kernel_names raw) ≡ words_with (shown kernel_names) (tree_of texts kernel_names raw)
  words_shown = ap (λ (names : TreeNames). words_with names (tree_of texts kernel_names raw)) names_shown

pub kernel_written_again : (texts written : List (List ℕ)) (d : Derivation (Lexed Kind) syntax.kernel.shape.grammar) → Leaves (IsLeaf texts) syntax.kernel.shape.grammar d
    → AreFit (source_of texts written (syntax.kernel.make d)) (kernel_notes (syntax.kernel.make d)) → (at : ℕ) → Holds written at (words_of (tree_of texts (kernel_names texts written (syntax.kernel.make d)) (syntax.kernel.make d)))
    → IsWritten (source_of texts written (syntax.kernel.make d)) syntax.kernel.shape.grammar syntax.kernel.make (whole texts written (syntax.kernel.make d)) (syntax.kernel.make d) at
kernel_written_again texts written d leaves fit at holds =
    let raw = syntax.kernel.make d in
    let same = words_shown texts written raw in
    let is = kernel_written (source_of texts written raw) d leaves fit at (subst (Holds written at) same holds) in
    record { text = in_words (sym same) is.text; means = is.means; same = is.same }
