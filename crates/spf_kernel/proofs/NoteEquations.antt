-- The notes of index expressions and values, told of their parts as lists.
use Rattle.spf_kernel.proofs.Common.{◌≡◌, ℕ, zero, suc, ◌-◌, ◌≤◌, nat_lt, Bool, true, false, List, [], ◌∷◌, ◌++◌, length, map, flat_map, drop, Option, None, Some, refl, ap, ◌∙◌, append-nil, sym, is_some, arith, if◌then◌else◌, ltb-false, le-ltb, map-append, Token, Note, Spot, Scope, Used, Large, Excess, RawIx, RawIx', Row_of-RawStep, end_of-RawStep, more_of-RawStep, items-the_row-RawStep, items_shown-the_row-RawStep-1, RawStep, RawAtom, RawAtom', end_of-RawIx, more_of-RawIx, RawAtom-at-None', RawAtom-at-Some', RawValue, RawValue', Row_of-RawFactor, end_of-RawFactor, more_of-RawFactor, items-the_row-RawFactor, items_shown-the_row-RawFactor-1, Row_of-RawSummand, end_of-RawSummand, more_of-RawSummand, items-the_row-RawSummand, items_shown-the_row-RawSummand-2, RawSummand, Fact, note, ix_notes, steps_notes, mono_notes, atom_notes, value_notes, facts_notes, summands_notes, fact_notes, atom_monomials, excess_notes, ix_monomials, mark, mono_monomials, number_limit, number_notes, drop_of_length-le, length-drop, out-RawIx, out-RawAtom, out-RawValue, steps_monomials}
use Rattle.spf_kernel.specs.declared.raw.RawFactor.TheVariants.{Paren}
use Rattle.spf_kernel.proofs.NamedUses.{AreFitting}

module _ (spot : Spot) (scope : Scope) where
  abbrev pub step_notes : RawStep → List Note
  step_notes step = mono_notes spot scope step.mono

  steps_are : {n : _} (row : Row_of-RawStep n) → steps_notes spot scope row ≡ flat_map step_notes (items-the_row-RawStep n row)
  steps_are end_of-RawStep = refl
  steps_are (more_of-RawStep minus mono others) = ap (λ (notes : List Note). mono_notes spot scope mono ++ notes) (steps_are others)

  pub ix_notes_are : (ix : RawIx) → ix_notes spot scope ix ≡ flat_map step_notes (out-RawIx ix).steps
  unfolding out-RawIx denote.Hole.Carrier.out
  ix_notes_are (RawIx' shape steps) = steps_are steps ∙ ap (flat_map step_notes) (sym (items_shown-the_row-RawStep-1 shape steps))

  -- what stands in the brackets behind a name
  abbrev pub at_notes : Option RawIx → List Note
  at_notes None = []
  at_notes (Some ix) = ix_notes spot scope ix

  pub atom_notes_are : (atom : RawAtom) → atom_notes spot scope atom ≡ note (out-RawAtom atom).name (Used (is_some (out-RawAtom atom).at) spot) scope ∷ at_notes (out-RawAtom atom).at
  unfolding out-RawAtom denote.Hole.Carrier.out Rattle.spf_kernel.specs.declared.raw.RawMono.TheBlock.shown-the_row-RawIx-0 denote.Hole.Carrier.shown
  atom_notes_are (RawAtom' name RawAtom-at-None') = refl
  atom_notes_are (RawAtom' name (RawAtom-at-Some' shape (more_of-RawIx ix end_of-RawIx))) = ap (λ (notes : List Note). note name (Used true spot) scope ∷ notes) (append-nil (ix_notes spot scope ix))

-- ---- monomials

abbrev pub step_monomials : RawStep → List Token
step_monomials step = mono_monomials step.mono

monomials_are : {n : _} (row : Row_of-RawStep n) → steps_monomials row ≡ flat_map step_monomials (items-the_row-RawStep n row)
monomials_are end_of-RawStep = refl
monomials_are (more_of-RawStep minus mono others) = ap (λ (tokens : List Token). mono_monomials mono ++ tokens) (monomials_are others)

pub ix_monomials_are : (ix : RawIx) → ix_monomials ix ≡ flat_map step_monomials (out-RawIx ix).steps
unfolding out-RawIx denote.Hole.Carrier.out
ix_monomials_are (RawIx' shape steps) = monomials_are steps ∙ ap (flat_map step_monomials) (sym (items_shown-the_row-RawStep-1 shape steps))

abbrev pub at_monomials : Option RawIx → List Token
at_monomials None = []
at_monomials (Some ix) = ix_monomials ix

pub atom_monomials_are : (atom : RawAtom) → atom_monomials atom ≡ at_monomials (out-RawAtom atom).at
unfolding out-RawAtom denote.Hole.Carrier.out Rattle.spf_kernel.specs.declared.raw.RawMono.TheBlock.shown-the_row-RawIx-0 denote.Hole.Carrier.shown
atom_monomials_are (RawAtom' name RawAtom-at-None') = refl
atom_monomials_are (RawAtom' name (RawAtom-at-Some' shape (more_of-RawIx ix end_of-RawIx))) = append-nil (ix_monomials ix)

module _ (scope : Scope) where
  facts_are : {n : _} (row : Row_of-RawFactor n) → facts_notes scope row ≡ flat_map (fact_notes scope) (items-the_row-RawFactor n row)
  facts_are end_of-RawFactor = refl
  facts_are (more_of-RawFactor fact others) = ap (λ (notes : List Note). fact_notes scope fact ++ notes) (facts_are others)

  abbrev pub summand_notes : RawSummand → List Note
  summand_notes summand = flat_map (fact_notes scope) summand.facts

  summands_are : {n : _} (row : Row_of-RawSummand n) → summands_notes scope row ≡ flat_map summand_notes (items-the_row-RawSummand n row)
  summands_are end_of-RawSummand = refl
  summands_are (more_of-RawSummand minus shape facts others) =
      let shown = facts_are facts ∙ ap (flat_map (fact_notes scope)) (sym (items_shown-the_row-RawFactor-1 shape facts)) in
      λ i. shown i ++ summands_are others i

  pub value_notes_are : (value : RawValue) → value_notes scope value ≡ flat_map summand_notes (out-RawValue value).summands
  unfolding out-RawValue denote.Hole.Carrier.out
  value_notes_are (RawValue' shape summands) = summands_are summands ∙ ap (flat_map summand_notes) (sym (items_shown-the_row-RawSummand-2 shape summands))

  pub paren_notes_are : (value : RawValue) → fact_notes scope (Paren value) ≡ value_notes scope value
  unfolding Rattle.spf_kernel.specs.declared.raw.RawFactor.TheBlock.hidden-the_row-RawValue-0 denote.Hole.Carrier.hidden
  paren_notes_are value = append-nil (value_notes scope value)

-- ---- what no fit part has

-- a number within its limit isn't noted
pub number_fits : (times : Bool) (number : Token) → number.value ≤ number_limit times → number_notes times number ≡ []
number_fits times number small = ap (λ (large : Bool). if large then mark number Large ∷ [] else []) (le-ltb (number_limit times) number.value small)

pub number_within : (texts : List (List ℕ)) (facts : List Fact) (times : Bool) (number : Token) → AreFitting texts facts (number_notes times number) → number.value ≤ number_limit times
number_within texts facts times number = by (nat_lt (number_limit times) number.value) refl where
  by : (b : Bool) → nat_lt (number_limit times) number.value ≡ b → AreFitting texts facts (if b then mark number Large ∷ [] else []) → number.value ≤ number_limit times
  by true e each = absurd each.0
  by false e each = ltb-false (number_limit times) number.value e

pub excess_append : (room : ℕ) (xs ys : List Token) → excess_notes room (xs ++ ys) ≡ excess_notes room xs ++ excess_notes (room - length xs) ys
excess_append zero xs ys =
    let none : 0 - length xs ≡ 0 = omega arith in
    map-append (λ token. mark token Excess) xs ys ∙ ap (λ room. excess_notes 0 xs ++ excess_notes room ys) (sym none)
excess_append (suc room) [] ys =
    let same : suc room ≡ suc room - 0 = omega arith in
    ap (λ room. excess_notes room ys) same
excess_append (suc room) (x ∷ xs) ys =
    let same : room - length xs ≡ suc room - length (x ∷ xs) = omega arith in
    excess_append room xs ys ∙ ap (λ left. excess_notes room xs ++ excess_notes left ys) same

-- so few monomials that none is noted
pub none_in_excess : (room : ℕ) (tokens : List Token) → length tokens ≤ room → excess_notes room tokens ≡ []
none_in_excess room tokens few = ap (map (λ token. mark token Excess)) (drop_of_length-le tokens few)

pub few_monomials : (texts : List (List ℕ)) (facts : List Fact) (room : ℕ) (tokens : List Token) → AreFitting texts facts (excess_notes room tokens) → length tokens ≤ room
few_monomials texts facts room tokens = by (drop room tokens) (length-drop room tokens) where
  by : (left : List Token) → length left ≡ length tokens - room → AreFitting texts facts (map (λ token. mark token Excess) left) → length tokens ≤ room
  by [] e each = omega (arith, e)
  by (token ∷ left) e each = absurd each.0
