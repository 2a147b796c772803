-- Declarations are written again.
use Rattle.spf_kernel.proofs.Common.{Spot, Sort, Says, Kind, ◌≡◌, ℕ, false, List, [], ◌∷◌, ◌++◌, map, flat_map, refl, ap, sym, ◌∙◌, subst, codes, append_assoc, append-nil, bundle_words, ◌or◌, token, Token, small_fixed, symbol_fixed, Term, Note, RawIx, RawSized, RawDecl, DataDecl, Decl, text_of, fact_with, Names, names_of, param_note, head_notes, cells_notes, decl_notes, trend_words, array_words, decl_words, head_of, data_decl_of, decl_of, sized_words}
use Rattle.spf_kernel.specs.Productions as syntax
use Rattle.spf_kernel.proofs.Written.{in_source, IsFixedWord, Source, shown, Meaning, AreFit, AreWritten, same_by}
use Rattle.spf_kernel.proofs.WrittenLoops.{outside}
use Rattle.spf_kernel.proofs.WrittenParts.{Written, either_written, ◌&◌, led_by, ended_by, parted_by, a_sign, a_name, made_of}
use Rattle.spf_kernel.proofs.WrittenSigns.{trend_written}
use Rattle.spf_kernel.proofs.WrittenStatements.{semicolon, in_word, range_word, an_ix, a_size}

comma : IsFixedWord Kind.Comma (codes ",")
comma = symbol_fixed bundle_words Kind.Comma (codes ",") refl refl

three_notes : (size low high : List Note) → size ++ low ++ high ≡ size ++ (low ++ (high ++ []))
three_notes size low high = append_assoc size low high ∙ ap (λ (notes : List Note). size ++ (low ++ notes)) (sym (append-nil high))

one_note_each : (names : List Token) → map param_note names ≡ flat_map (λ (name : Token). param_note name ∷ []) names
one_note_each [] = refl
one_note_each (name ∷ names) = ap (λ (notes : List Note). param_note name ∷ notes) (one_note_each names)

module _ (s : Source) where
  abbrev names : Names
  names = names_of s.facts

  -- an index expression with no variable in scope
  abbrev pub a_head : Written s false RawIx Term
  a_head = an_ix (outside s) Spot.Head refl 5

  -- ---- names of parameters

  abbrev param_as : Meaning Token (List ℕ)
  param_as = record { means = text_of s.texts; means_again = text_of s.written; notes = λ name. param_note name ∷ []; notes_again = λ name. param_note name ∷ []; words = λ word. word ∷ [] }

  abbrev named_token : Token → Token
  named_token name = name

  param_written : AreWritten s (token Kind.Name) param_as
  param_written = made_of a_name param_as named_token
      (record { fit = λ r fit. tt; words = λ r fit. refl; means = λ r again same. same; same = λ r again same facts i. fact_with (Says.Declared Sort.Param) (same i) [] ∷ [] })

  -- ---- arrays and their sizes

  abbrev Sized : Type 0
  Sized = List ℕ × Term

  -- without the note of the name
  abbrev sized_as : Meaning RawSized Sized
  sized_as = record {
    means = λ array. (text_of s.texts array.name, head_of s.texts names array.size);
    means_again = λ array. (text_of s.written array.name, head_of s.written names array.size);
    notes = λ array. head_notes array.size;
    notes_again = λ array. head_notes array.size;
    words = λ array. sized_words (shown names) array.0 array.1;
  }

  sized_written : AreWritten s syntax.sized sized_as
  unfolding syntax.sized
  sized_written = made_of (a_name & a_size (outside s) Spot.Head refl) sized_as (λ x. record { name = x.0; size = x.1 })
      (record { fit = λ r fit. fit; words = λ r fit. refl; means = λ r again same. same; same = λ r again same facts. facts })

  abbrev a_sized : Written s false RawSized Sized
  a_sized = record { form = syntax.sized; of = sized_as; again = sized_written }

  abbrev cells_as : Meaning RawSized DataDecl
  cells_as = in_source s data_decl_of cells_notes array_words

  abbrev sized_array : RawSized → RawSized
  sized_array array = array

  cells_written : AreWritten s syntax.sized cells_as
  cells_written = made_of a_sized cells_as sized_array (record {
    fit = λ r fit. fit.1;
    words = λ r fit. refl;
    means = λ r again same i. record { name = (same i).0; size = (same i).1 };
    same = λ r again same facts i. fact_with (Says.Declared Sort.Data) (same i).0 [] ∷ facts i;
  })

  -- ---- declarations

  abbrev pub decl_as : Meaning RawDecl Decl
  decl_as = in_source s decl_of decl_notes decl_words

  params_written : AreWritten s syntax.params decl_as
  unfolding syntax.params
  params_written =
      made_of (led_by (small_fixed bundle_words Kind.Param (codes "param") refl refl) (ended_by semicolon (parted_by comma (record { form = token Kind.Name; of = param_as; again = param_written })))) decl_as RawDecl.Params
      (record {
        fit = λ r. subst (AreFit s) (one_note_each r);
        words = λ r fit. refl;
        means = λ r again same i. Decl.Params (same i);
        same = λ r again same facts. same_by s.texts s.written (one_note_each again) (one_note_each r) facts;
      })

  index_written : AreWritten s syntax.index decl_as
  unfolding syntax.index
  index_written =
      made_of (led_by (small_fixed bundle_words Kind.Index (codes "index") refl refl) (a_sized & led_by in_word (a_head & led_by range_word (a_head & ended_by semicolon (a_sign syntax.trend trend_words trend_written))))) decl_as
      (λ x. RawDecl.Index x.0 x.1.0 x.1.1.0 x.1.1.1)
      (record {
        fit = λ r fit. subst (AreFit s) (three_notes (head_notes r.0.size) (head_notes r.1.0) (head_notes r.1.1.0)) fit.1;
        words = λ r fit. refl;
        means = λ r again same i. Decl.Index (same i).0.0 (same i).0.1 (same i).1.0 (same i).1.1.0 (same i).1.1.1;
        same = λ r again same facts.
            let all = same_by s.texts s.written (three_notes (head_notes again.0.size) (head_notes again.1.0) (head_notes again.1.1.0)) (three_notes (head_notes r.0.size) (head_notes r.1.0) (head_notes r.1.1.0)) facts in
            λ i. fact_with (Says.Declared Sort.Index) (same i).0.0 [] ∷ all i;
      })

  values_written : AreWritten s syntax.values decl_as
  unfolding syntax.values
  values_written =
      made_of (led_by (small_fixed bundle_words Kind.Data (codes "data") refl refl) (ended_by semicolon (parted_by comma (record { form = syntax.sized; of = cells_as; again = cells_written })))) decl_as RawDecl.Values
      (record { fit = λ r fit. fit; words = λ r fit. refl; means = λ r again same i. Decl.Values (same i); same = λ r again same facts. facts })

  pub decl_written : AreWritten s syntax.decl decl_as
  unfolding syntax.decl
  decl_written = either_written syntax.params (syntax.index or syntax.values) decl_as params_written (either_written syntax.index syntax.values decl_as index_written values_written)
