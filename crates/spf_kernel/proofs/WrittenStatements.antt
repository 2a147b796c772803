-- Assignments, conditions, guarded assignments and ranges are written again.
use Rattle.spf_kernel.proofs.Common.{Assign, Cond, Guard, Says, Kind, ◌≡◌, ℕ, Bool, true, false, List, [], ◌∷◌, ◌++◌, refl, ap, codes, bundle_words, ◌<$>◌, small_fixed, symbol_fixed, Term, Spot, RawIx, RawValue, RawAssign, RawCond, RawGuard, RawRange, RawPart, Value, fact_of, text_of, fact_with, Names, number_of, expression_notes, assign_notes, cond_notes, guard_notes, part_notes, conds_head, mark, becomes_word, compare_word, assign_words, cond_words, part_words, range_words, term_of, assign_of, cond_of, guard_of, part_of, is_data, takes_data, Part, ix_head, guard_words}
use Rattle.spf_kernel.specs.Productions as syntax
use Rattle.spf_kernel.proofs.FittingNames.{number_declared}
use Rattle.spf_kernel.proofs.Written.{in_scope, IsFixedWord, Source, Context, source, names_in, shown_in, Meaning, AreWritten, vars_in}
use Rattle.spf_kernel.proofs.WrittenParts.{Written, either_written, ◌&◌, led_by, ended_by, enclosed_by, repeated, parted_by, a_sign, a_name, made_of}
use Rattle.spf_kernel.proofs.WrittenSigns.{becomes_written, compare_written}
use Rattle.spf_kernel.proofs.WrittenTerms.{open_bracket, close_bracket, ix_as, ix_written}
use Rattle.spf_kernel.proofs.WrittenValues.{value_as, value_written}

-- ---- words in front and behind

pub semicolon : IsFixedWord Kind.Semicolon (codes ";")
semicolon = symbol_fixed bundle_words Kind.Semicolon (codes ";") refl refl

pub in_word : IsFixedWord Kind.In (codes "in")
in_word = small_fixed bundle_words Kind.In (codes "in") refl refl

pub range_word : IsFixedWord Kind.Range (codes "..")
range_word = symbol_fixed bundle_words Kind.Range (codes "..") refl refl

pub open_brace : IsFixedWord Kind.OpenBrace (codes "{")
open_brace = symbol_fixed bundle_words Kind.OpenBrace (codes "{") refl refl

pub close_brace : IsFixedWord Kind.CloseBrace (codes "}")
close_brace = symbol_fixed bundle_words Kind.CloseBrace (codes "}") refl refl

-- parts between brackets, and between braces
abbrev pub bracketed : {s : Source} {R A : Type 0} {empty : Bool} → Written s empty R A → Written s false R A
bracketed x = enclosed_by open_bracket close_bracket x

abbrev pub braced : {s : Source} {R A : Type 0} {empty : Bool} → Written s empty R A → Written s false R A
braced x = enclosed_by open_brace close_brace x

-- an index expression
abbrev pub an_ix : (c : Context) (spot : Spot) → takes_data spot ≡ false → ℕ → Written (source c) false RawIx Term
an_ix c spot no_data depth = record { form = syntax.ix depth; of = ix_as c spot; again = ix_written c spot no_data depth }

pub sized_by : (c : Context) (spot : Spot) (no_data : takes_data spot ≡ false) → AreWritten (source c) syntax.in_brackets (bracketed (an_ix c spot no_data 4)).of
unfolding syntax.in_brackets
sized_by c spot no_data = (bracketed (an_ix c spot no_data 4)).again

abbrev pub a_size : (c : Context) (spot : Spot) → takes_data spot ≡ false → Written (source c) false RawIx Term
a_size c spot no_data = record { form = syntax.in_brackets; of = (bracketed (an_ix c spot no_data 4)).of; again = sized_by c spot no_data }

-- a variable, by its name, and its bounds
abbrev pub Range : Type 0
Range = List ℕ × (Term × Term)

module _ (c : Context) where
  abbrev s : Source
  s = source c

  abbrev names : Names
  names = names_in c

  abbrev body_ix : Written s false RawIx Term
  body_ix = an_ix c Spot.Body refl 5

  -- ---- assignments

  abbrev assign_as : Meaning RawAssign Assign
  assign_as = in_scope c assign_of assign_notes assign_words

  abbrev a_value : Written s false RawValue Value
  a_value = record { form = syntax.value 8; of = value_as c; again = value_written c 8 }

  assign_written : AreWritten s syntax.assign assign_as
  unfolding syntax.assign
  assign_written =
      made_of (a_name & a_size c Spot.Body refl & a_sign syntax.becomes (λ sign. becomes_word sign ∷ []) becomes_written & ended_by semicolon a_value) assign_as
      (λ x. record { array = x.0; at = x.1.0; sign = x.1.1.0; value = x.1.1.1 })
      (record {
        fit = λ r fit. fit.1;
        words = λ r fit.
            let after = (bracketed body_ix & a_sign syntax.becomes (λ sign. becomes_word sign ∷ []) becomes_written & ended_by semicolon a_value).of in
            ap (λ (array : List ℕ). array ∷ after.words (after.means r.1)) (number_declared is_data c.facts (text_of c.texts r.0) fit.0).named;
        means = λ r again same i. record { array = number_of names.data_arrays (same i).0; sub = (same i).1.0; sign = (same i).1.1.0; value = (same i).1.1.1 };
        same = λ r again same facts i. fact_with (Says.Used true Spot.Target) (same i).0 (c.scoped i) ∷ facts i;
      })

  abbrev an_assign : Written s false RawAssign Assign
  an_assign = record { form = syntax.assign; of = assign_as; again = assign_written }

  -- ---- guarded assignments

  abbrev cond_as : Meaning RawCond Cond
  cond_as = in_scope c cond_of cond_notes cond_words

  cond_written : AreWritten s syntax.cond cond_as
  unfolding syntax.cond
  cond_written =
      made_of (body_ix & a_sign syntax.compare (λ sign. compare_word sign ∷ []) compare_written & body_ix) cond_as (λ x. record { left = x.0; sign = x.1.0; right = x.1.1 })
      (record {
        fit = λ r fit. fit.1;
        words = λ r fit. refl;
        means = λ r again same i. record { left = (same i).0; sign = (same i).1.0; right = (same i).1.1 };
        same = λ r again same facts i. fact_of c.texts (mark (ix_head r.0) Says.Condition) ∷ facts i;
      })

  abbrev guard_as : Meaning RawGuard Guard
  guard_as = in_scope c guard_of guard_notes guard_words

  guard_written : AreWritten s syntax.guard guard_as
  unfolding syntax.guard
  guard_written =
      made_of (led_by (small_fixed bundle_words Kind.If (codes "if") refl refl) (parted_by (small_fixed bundle_words Kind.And (codes "and") refl refl) (record { form = syntax.cond; of = cond_as; again = cond_written }) & braced (repeated an_assign))) guard_as (λ x. record { conds = x.0; body = x.1 })
      (record {
        fit = λ r fit. fit.1;
        words = λ r fit. refl;
        means = λ r again same i. record { conds = (same i).0; body = (same i).1 };
        same = λ r again same facts i. fact_of c.texts (mark (conds_head r.0) Says.Guard) ∷ facts i;
      })

  -- ---- the parts of a body

  abbrev pub part_as : Meaning RawPart Part
  part_as = in_scope c part_of part_notes part_words

  pub part_written : AreWritten s syntax.part part_as
  unfolding syntax.part
  part_written =
      either_written (RawPart.Assign <$> syntax.assign) (RawPart.Guard <$> syntax.guard) part_as
      (made_of an_assign part_as RawPart.Assign (record { fit = λ r fit. fit; words = λ r fit. refl; means = λ r again same. ap Part.Assign same; same = λ r again same facts. facts }))
      (made_of (record { form = syntax.guard; of = guard_as; again = guard_written }) part_as RawPart.Guard (record { fit = λ r fit. fit; words = λ r fit. refl; means = λ r again same. ap Part.Branch same; same = λ r again same facts. facts }))

  abbrev pub a_part : Written s false RawPart Part
  a_part = record { form = syntax.part; of = part_as; again = part_written }

  -- ---- ranges

  abbrev pub range_as : Spot → Meaning RawRange Range
  range_as spot = record {
    means = λ range. (text_of c.texts range.var, (term_of c.texts names c.scope range.low, term_of c.texts names c.scope range.high));
    means_again = λ range. (text_of c.written range.var, (term_of c.written names c.again range.low, term_of c.written names c.again range.high));
    notes = λ range. expression_notes spot c.scope range.low ++ expression_notes spot c.scope range.high;
    notes_again = λ range. expression_notes spot c.again range.low ++ expression_notes spot c.again range.high;
    words = λ range. range_words (shown_in c) (vars_in c) range.0 range.1.0 range.1.1;
  }

  pub range_written : (spot : Spot) → takes_data spot ≡ false → AreWritten s syntax.range (range_as spot)
  unfolding syntax.range
  range_written spot no_data =
      made_of (a_name & led_by in_word (an_ix c spot no_data 5 & led_by range_word (an_ix c spot no_data 5))) (range_as spot) (λ x. record { var = x.0; low = x.1.0; high = x.1.1 })
      (record { fit = λ r fit. fit; words = λ r fit. refl; means = λ r again same. same; same = λ r again same facts. facts })

  abbrev pub a_range : (spot : Spot) → takes_data spot ≡ false → Written s false RawRange Range
  a_range spot no_data = record { form = syntax.range; of = range_as spot; again = range_written spot no_data }
