-- Sizes, ranges, `steps` and outer bounds read no index array, so that their values are those of the parameters alone.
use Rattle.std.proofs.Common.{◌≡◌, ℕ, ℤ, ◌+ℤ◌, ◌*ℤ◌, Bool, true, List, [], ◌∷◌, ◌++◌, Option, None, Some, is_some, map, flat_map, refl, sym, ap, subst}
use Rattle.std.specs.Prelude.{⊤}
use Rattle.std.specs.List.{AllByRecursion}
use Rattle.std.proofs.lemmas.Bool.{true≢false}
use Rattle.spf_base.specs.Wrap.{wrap}
use Rattle.spf_lex.proofs.Leaves.{join_each, split_each}
use Rattle.spf_lex.specs.Tokens.{texts}
use Rattle.spf_term.specs.Environment.{Environment}
use Rattle.spf_term.specs.Value.{atom_value, sum_value}
use Rattle.spf_term.specs.declared.term.Atom.{Atom}
use Rattle.spf_term.specs.declared.term.Atom.TheVariants.{Var, Param, App}
use Rattle.spf_term.specs.declared.term.Term.{Row_of-Mono, Term, Term', end_of-Mono, items-the_row-Mono, items_shown-the_row-Mono-0, more_of-Mono, out-Term, out-roll-Term, roll-Term}
use Rattle.spf_kernel.specs.Facts.{Fact, facts_of, text_of, variables_in}
use Rattle.spf_kernel.specs.Names.{Names, names_of}
use Rattle.spf_kernel.specs.Notes.{atom_notes, bound_notes, cells_notes, decl_notes, excess_notes, expression_notes, head_notes, item_notes, ix_monomials, ix_notes, kernel_notes, loop_notes, mono_notes, monomial_limit, number_notes, steps_notes}
use Rattle.spf_kernel.specs.Parsed.{IsParsed}
use Rattle.spf_kernel.specs.Resolved.{atom_of, bare_atom, constant_of, data_decl_of, decl_of, head_of, loop_of, monos_of, more_monos, term_of, tree_of, variable_of}
use Rattle.spf_kernel.specs.Rules.{fits}
use Rattle.spf_kernel.specs.Scopes.{nothing}
use Rattle.spf_lex.specs.declared.cursor.Token.{Token}
use Rattle.spf_term.specs.declared.term.Mono.{Mono}
use Rattle.spf_kernel.specs.declared.note.Note.{Note}
use Rattle.spf_kernel.specs.declared.note.Spot.{Spot}
use Rattle.spf_kernel.specs.declared.raw.RawAtom.{RawAtom, RawAtom', RawAtom-at-None', RawAtom-at-Some', end_of-RawIx, more_of-RawIx}
use Rattle.spf_kernel.specs.declared.raw.RawDecl.{RawDecl}
use Rattle.spf_kernel.specs.declared.raw.RawIx.{RawIx, RawIx', Row_of-RawStep, end_of-RawStep, more_of-RawStep}
use Rattle.spf_kernel.specs.declared.raw.RawKernel.{RawKernel}
use Rattle.spf_kernel.specs.declared.raw.RawLoop.{RawLoop}
use Rattle.spf_kernel.specs.declared.raw.RawMono.{Number', RawMono, RawMono-Number-1-None', RawMono-Number-1-Some'}
use Rattle.spf_kernel.specs.declared.tree.DataDecl.{DataDecl}
use Rattle.spf_kernel.specs.declared.tree.Tree.{Tree}
use Rattle.spf_kernel.specs.declared.note.Spot.TheVariants as spot_is
use Rattle.spf_kernel.specs.declared.raw.RawMono as raw_mono
use Rattle.spf_kernel.specs.declared.raw.RawDecl.TheVariants as raw_decl
use Rattle.spf_kernel.proofs.NamedUses.{AreFitting, IsFitting, all_fit}
use Rattle.spf_input.proofs.Accepting.{AreSame, IsSame, IsSameDecl, IsSameLoop}

-- ---- terms without applications

abbrev IsPlainAtom : Atom → Type 0
IsPlainAtom (Var number) = ⊤
IsPlainAtom (Param number) = ⊤
IsPlainAtom (App fun arg) = ⊥

abbrev IsPlain : Mono → Type 0
IsPlain mono = IsPlainAtom mono.atom

module _ (params : List ℤ) (tables : List (List ℤ)) where
  abbrev outer : Environment
  outer = record { params = params; tables = [] }

  abbrev env : Environment
  env = record { params = params; tables = tables }

  same_atom : (atom : Atom) → IsPlainAtom atom → atom_value outer [] atom ≡ atom_value env [] atom
  same_atom (Var number) plain = refl
  same_atom (Param number) plain = refl
  same_atom (App fun arg) plain = absurd plain

  same_sum : {n : _} (row : Row_of-Mono n) → AllByRecursion IsPlain (items-the_row-Mono n row) → sum_value outer [] row ≡ sum_value env [] row
  same_sum end_of-Mono each = refl
  same_sum (more_of-Mono coef atom others) each =
      let here = same_atom atom each.0 in
      let more = same_sum others each.1 in
      λ i. (coef *ℤ here i) +ℤ more i

  same_value : (term : Term) → AllByRecursion IsPlain (out-Term term).monos → IsSame outer env term
  unfolding out-Term denote.Hole.Carrier.out
  same_value (Term' shape monos constant) each = ap (λ sum. sum +ℤ constant) (same_sum monos (subst (AllByRecursion IsPlain) (items_shown-the_row-Mono-0 shape monos) each))

  rolled_same : (monos : List Mono) (constant : ℤ) → AllByRecursion IsPlain monos → IsSame outer env (roll-Term (record { monos = monos; constant = constant }))
  rolled_same monos constant each = same_value (roll-Term (record { monos = monos; constant = constant })) (rw (out-roll-Term (record { monos = monos; constant = constant })) each)

  -- ---- expressions where no index array may stand

  module _ (texts : List (List ℕ)) (facts : List Fact) where
    abbrev names : Names
    names = names_of facts

    bare : (variable : Option ℕ) (name : Token) → IsPlainAtom (bare_atom texts names variable name)
    bare None name = tt
    bare (Some variable) name = tt

    module _ (spot : Spot) (no_array : (name : List ℕ) → ¬ (fits facts [] name true spot ≡ true)) where
      atom_plain : (x : RawAtom) → AreFitting texts facts (atom_notes spot nothing x) → IsPlainAtom (atom_of texts names nothing x)
      atom_plain (RawAtom' name RawAtom-at-None') each = bare (variable_of (variables_in texts nothing) (text_of texts name)) name
      atom_plain (RawAtom' name (RawAtom-at-Some' shape (more_of-RawIx ix end_of-RawIx))) each = absurd (no_array (text_of texts name) each.0)

      mono_plain : (minus : Bool) (x : RawMono) → AreFitting texts facts (mono_notes spot nothing x) → AllByRecursion IsPlain (monos_of texts names nothing minus x)
      mono_plain minus (Number' number RawMono-Number-1-None') each = tt
      mono_plain minus (Number' number (RawMono-Number-1-Some' atom)) each = (atom_plain atom (split_each (IsFitting texts facts) (number_notes true number) (atom_notes spot nothing atom) each).1, tt)
      mono_plain minus (raw_mono.Atom atom) each = (atom_plain atom each, tt)

      steps_plain : {n : _} (row : Row_of-RawStep n) → AreFitting texts facts (steps_notes spot nothing row) → AllByRecursion IsPlain (more_monos texts names nothing row)
      steps_plain end_of-RawStep each = tt
      steps_plain (more_of-RawStep minus mono others) each =
          let parts = split_each (IsFitting texts facts) (mono_notes spot nothing mono) (steps_notes spot nothing others) each in
          join_each IsPlain (monos_of texts names nothing (is_some minus) mono) (more_monos texts names nothing others) (mono_plain (is_some minus) mono parts.0) (steps_plain others parts.1)

      term_same : (x : RawIx) → AreFitting texts facts (ix_notes spot nothing x) → IsSame outer env (term_of texts names nothing x)
      term_same (RawIx' shape steps) each = rolled_same (more_monos texts names nothing steps) (wrap (constant_of (RawIx' shape steps))) (steps_plain steps each)

      expression_same : (x : RawIx) → AreFitting texts facts (expression_notes spot nothing x) → IsSame outer env (term_of texts names nothing x)
      expression_same x each = term_same x (split_each (IsFitting texts facts) (excess_notes (monomial_limit spot) (ix_monomials x)) (ix_notes spot nothing x) each).1

    head_same : (x : RawIx) → AreFitting texts facts (head_notes x) → IsSame outer env (head_of texts names x)
    head_same = expression_same spot_is.Head (λ name e. true≢false (sym e))

    bound_same : (x : RawIx) → AreFitting texts facts (bound_notes x) → IsSame outer env (head_of texts names x)
    bound_same = expression_same spot_is.Bound (λ name e. true≢false (sym e))

    -- ---- declarations and loops

    each_same : {A B : Type 0} (P : B → Type 0) (notes_of : A → List Note) (make : A → B) → ((x : A) → AreFitting texts facts (notes_of x) → P (make x))
        → (xs : List A) → AreFitting texts facts (flat_map notes_of xs) → AllByRecursion P (map make xs)
    each_same P notes_of make one [] each = tt
    each_same P notes_of make one (x ∷ xs) each =
        let parts = split_each (IsFitting texts facts) (notes_of x) (flat_map notes_of xs) each in
        (one x parts.0, each_same P notes_of make one xs parts.1)

    decl_same : (x : RawDecl) → AreFitting texts facts (decl_notes x) → IsSameDecl outer env (decl_of texts names x)
    decl_same (raw_decl.Params _) each = tt
    decl_same (raw_decl.Index array low high trend) each =
        let split = split_each (IsFitting texts facts) (head_notes array.size ++ head_notes low) (head_notes high) each.1 in
        let front = split_each (IsFitting texts facts) (head_notes array.size) (head_notes low) split.0 in
        (head_same array.size front.0, head_same low front.1, head_same high split.1)
    decl_same (raw_decl.Values arrays) each =
        each_same (λ (array : DataDecl). IsSame outer env array.size) cells_notes (data_decl_of texts names) (λ x cells. head_same x.size cells.1) arrays each

    loop_same : (x : RawLoop) → AreFitting texts facts (loop_notes x) → IsSameLoop outer env (loop_of texts names x)
    unfolding loop_notes
    loop_same x each =
        let split = split_each (IsFitting texts facts) (bound_notes x.range.low ++ bound_notes x.range.high) (flat_map (item_notes x.range.var) x.items) each.1.1 in
        let bounds = split_each (IsFitting texts facts) (bound_notes x.range.low) (bound_notes x.range.high) split.0 in
        (bound_same x.range.low bounds.0, bound_same x.range.high bounds.1)

    kernel_same : (x : RawKernel) → AreFitting texts facts (kernel_notes x) → AreSame outer env (tree_of texts names x)
    unfolding kernel_notes
    kernel_same x each =
        let split = split_each (IsFitting texts facts) (flat_map decl_notes x.decls ++ head_notes x.steps) (flat_map loop_notes x.loops) each in
        let front = split_each (IsFitting texts facts) (flat_map decl_notes x.decls) (head_notes x.steps) split.0 in
        record {
          decls = each_same (IsSameDecl outer env) decl_notes (decl_of texts names) decl_same x.decls front.0;
          steps = head_same x.steps front.1;
          loops = each_same (IsSameLoop outer env) loop_notes (loop_of texts names) loop_same x.loops split.1;
        }

  pub parsed_same : (tree : Tree) → IsParsed tree → AreSame outer env tree
  parsed_same tree parsed =
      let parses = parsed.parses in
      let notes = kernel_notes parses.raw in
      let words = texts parsed.tokens in
      subst (AreSame outer env) (sym parses.means) (kernel_same words (facts_of words notes) parses.raw (all_fit words notes parses.unbroken))
