-- Pairs that fall in the groups of some element are the reversed pairs.
use Rattle.std.proofs.Common.{◌≢◌, ℕ, ◌<◌, ◌≤◌, Option, None, List, [], length, inl, inr, arith}
use Rattle.std.proofs.lemmas.Bool.{cases_lt}
use Rattle.std.proofs.lemmas.List.{get_or_past}
use Rattle.spf_space.specs.Places.{ArePlacesOf, IsBelow, number_of, place_of}
use Rattle.spf_space.specs.Units.{units_of}
use Rattle.spf_space.specs.declared.shape.LoopShape.{LoopShape}
use Rattle.spf_space.proofs.Placed.{down, one, up}
use Rattle.spf_touch.specs.declared.touch.Touch.{Touch}
use Rattle.spf_layers.specs.Fits.{Fits, StandApart}
use Rattle.spf_layers.specs.Groups.{Group, element_groups}
use Rattle.spf_layers.specs.Legality.{IsFirst, IsLegal, IsReversed}
use Rattle.spf_legal.specs.Falling.{AreOrdered, FallsApart}
use Rattle.spf_legal.proofs.Firsts.{first_like}

pub ordered : (touches : ℕ → List Touch) (count : ℕ) (layers : List (List Group)) (e : ℕ) → Fits touches count layers → AreOrdered count (element_groups layers e)
ordered touches count layers e fits =
    let at = fits.groups e in
    record { ascending = at.ascending; between = at.between; inside = at.inside; filled = at.filled; changes = at.changes }

element_there : (layers : List (List Group)) (e p q : ℕ) → StandApart (element_groups layers e) p q → e < length layers
element_there layers e p q apart = elim (cases_lt e (length layers)) [
  | inl lt ↦ lt
  | inr past ↦ let none : StandApart [] p q = rw get_or_past at apart in let here = none.here in cc
]

module _ (steps : ℕ) (loops : List LoopShape) (tiles : List ℕ) (orders : List (List ℕ)) (places : ArePlacesOf steps loops tiles orders)
    (touches : ℕ → List Touch) (layers : List (List Group)) (fits : Fits touches (length (units_of steps loops)) layers) where
  abbrev count : ℕ
  count = length (units_of steps loops)

  abbrev number : ℕ → ℕ
  number = number_of steps loops tiles orders

  abbrev Falls : ℕ → ℕ → ℕ → Type 0
  Falls end p q = (e : ℕ) × (e < end) × FallsApart number (element_groups layers e) p q

  abbrev Reversed : ℕ → ℕ → Type 0
  Reversed = IsReversed touches (place_of steps loops tiles orders) count

  falls_reversed : (end p q : ℕ) → Falls end p q → Reversed p q
  falls_reversed end p q (e, lt, pair) =
      let up_to : p < q = pair.ascend in
      let inside : q < count = (fits.groups e).inside pair.apart.second q pair.apart.there in
      let falls = pair.falls in
      record {
        ascend = up_to;
        inside = inside;
        conflict = (fits.conflicts p q (omega arith) inside (λ same. omega arith)).1 (e, pair.apart);
        reversed = λ below. let rises = up steps loops tiles orders places p q (omega arith) inside below in omega arith;
      }

  reversed_falls : (end p q : ℕ) → length layers ≤ end → Reversed p q → Falls end p q
  reversed_falls end p q all pair =
      let up_to : p < q = pair.ascend in
      let inside : q < count = pair.inside in
      let apart = (fits.conflicts p q (omega arith) inside (λ same. omega arith)).0 pair.conflict in
      let there = element_there layers apart.0 p q apart.1 in
      let not_below : number q ≤ number p = elim (cases_lt (number p) (number q)) [
        | inl rises ↦ absurd (pair.reversed (down steps loops tiles orders places p q (omega arith) inside rises))
        | inr le ↦ le
      ] in
      let differ : number p ≢ number q = λ same. let equal = one steps loops tiles orders places p q (omega arith) inside same in omega arith in
      (apart.0, omega arith, record { ascend = up_to; apart = apart.1; falls = omega arith })

  pub first_of_reversed : (end : ℕ) (o : Option (ℕ × ℕ)) → length layers ≤ end → IsFirst (Falls end) o → IsFirst Reversed o
  first_of_reversed end o all = first_like (Falls end) Reversed (falls_reversed end) (λ p q. reversed_falls end p q all) o

pub legal_from_none : (steps : ℕ) (loops : List LoopShape) (tiles : List ℕ) (orders : List (List ℕ)) → ArePlacesOf steps loops tiles orders → (touches : ℕ → List Touch) →
    IsFirst (IsReversed touches (place_of steps loops tiles orders) (length (units_of steps loops))) None → IsLegal touches (place_of steps loops tiles orders) (length (units_of steps loops))
legal_from_none steps loops tiles orders places touches none p q lt inside conflict = elim (cases_lt (number_of steps loops tiles orders p) (number_of steps loops tiles orders q)) [
  | inl rises ↦ down steps loops tiles orders places p q (omega arith) inside rises
  | inr falls ↦
      let below : IsBelow (place_of steps loops tiles orders p) (place_of steps loops tiles orders q) → ⊥ = λ below.
      let rises = up steps loops tiles orders places p q (omega arith) inside below in omega arith in
      absurd (none p q (record { ascend = lt; inside = inside; conflict = conflict; reversed = below }))
]
