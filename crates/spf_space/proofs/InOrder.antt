-- Turns by their numbers have their units in the order of places.
use Rattle.std.proofs.Common.{◌≡◌, ◌≢◌, ◌↔◌, ℕ, ◌<◌, ◌≤◌, true, List, [], ◌∷◌, length, get_or, map, All, AllPairs, inl, inr, refl, sym, ap, ◌∙◌, subst, eqb, arith}
use Rattle.std.proofs.lemmas.Bool.{cases_lt, eq-eqb, eqb-true}
use Rattle.std.proofs.lemmas.Bool.Decides.{Decides-eqb}
use Rattle.std.proofs.lemmas.Cmp.{nat_eq_equiv}
use Rattle.std.proofs.lemmas.List.{get_or-map, length-map}
use Rattle.std.proofs.lemmas.List.Elements.{All-map}
use Rattle.std.proofs.lemmas.List.Folds.{list_any_at}
use Rattle.std.proofs.lemmas.List.FromFn.{get_or-range_with_len, length-range_with_len}
use Rattle.std.proofs.lemmas.List.Sorted.{All-permutation, IsPermutation-map, list_any-IsPermutation}
use Rattle.std.proofs.lemmas.Map.Keys.{IsDistinct-IsPermutation}
use Rattle.std.proofs.lemmas.Map.Made.{AllPairs-from_IsDistinct, IsDistinct-from_AllPairs}
use Rattle.std.proofs.lemmas.Map.Views.{Contains-from_any}
use Rattle.std.specs.List.{list_any, range_with_len}
use Rattle.std.specs.List.Sorted.{IsPermutation}
use Rattle.spf_space.proofs.Placed.{down, one}
use Rattle.spf_space.specs.InOrder.{AreInOrder, ArePlacesIn, AreTurns, ComesBefore, turn_of, units_in}
use Rattle.spf_space.specs.Places.{IsBelow, Place, number_of}
use Rattle.spf_space.specs.declared.in_order.Turn.{Turn}
use Rattle.spf_space.specs.declared.places.Places.{Places}
use Rattle.spf_space.specs.declared.shape.Shape.{Shape}

-- of two places one at most is below the other
below_once : (p q : Place) → IsBelow p q → IsBelow q p → ⊥
below_once p q a b = grind (arith)

-- of two units one at most comes before the other
pub before_once : (shape : Shape) (places : Places) (u v : ℕ) → ComesBefore shape places u v → ComesBefore shape places v u → ⊥
before_once shape places u v = below_once _ _

-- the units of the shape are those that stand in the list
module _ (shape : Shape) (places : Places) (units : List ℕ) (are : AreInOrder shape places units) where
  abbrev all : List ℕ
  all = range_with_len 0 (units_in shape)

  pub stands : (u : ℕ) → (list_any (eqb u) units ≡ true) ↔ (u < units_in shape)
  stands u = (
    λ there.
        let at = Contains-from_any eqb-true u all (list_any-IsPermutation (eqb u) all units are.each ∙ there) in
        let inside : at.0 < units_in shape = rw length-range_with_len at at.1 in
        omega (arith, at.2, get_or-range_with_len 0 (units_in shape) at.0 u inside),
    λ lt.
        let same : u ≡ get_or all u 0 = omega (arith, get_or-range_with_len 0 (units_in shape) u 0 lt) in
        sym (list_any-IsPermutation (eqb u) all units are.each) ∙ list_any_at (eqb u) all u 0 (rw length-range_with_len lt) (eq-eqb u (get_or all u 0) same),
  )

range_differs : (n : ℕ) → AllPairs (λ (u v : ℕ). u ≢ v) (range_with_len 0 n)
range_differs n i j d lt inside =
    let last : j < n = rw length-range_with_len at inside in
    λ same. omega (arith, get_or-range_with_len 0 n i d (omega arith), get_or-range_with_len 0 n j d last)

units_listed : (shape : Shape) (places : Places) (us : List ℕ) → map (λ (turn : Turn). turn.unit) (map (turn_of shape places) us) ≡ us
units_listed shape places [] = refl
units_listed shape places (u ∷ us) = ap (λ l. u ∷ l) (units_listed shape places us)

module _ (shape : Shape) (places : Places) (turns : List Turn) (are : AreTurns shape places turns) where
  abbrev units : List ℕ
  units = map (λ (turn : Turn). turn.unit) turns

  -- each turn is that of its unit
  turn_is : All (λ (turn : Turn). (turn.unit < units_in shape) × (turn ≡ turn_of shape places turn.unit)) turns
  turn_is =
      All-permutation (λ (turn : Turn). (turn.unit < units_in shape) × (turn ≡ turn_of shape places turn.unit)) (map (turn_of shape places) (range_with_len 0 (units_in shape))) turns are.each
      (All-map (λ (turn : Turn). (turn.unit < units_in shape) × (turn ≡ turn_of shape places turn.unit)) (turn_of shape places) (range_with_len 0 (units_in shape))
      (λ k d lt. let inside : k < units_in shape = rw length-range_with_len at lt in (omega (arith, get_or-range_with_len 0 (units_in shape) k d inside), refl)))

  moved : IsPermutation (range_with_len 0 (units_in shape)) units
  moved = subst (λ l. IsPermutation l units) (units_listed shape places (range_with_len 0 (units_in shape)))
      (IsPermutation-map (λ (turn : Turn). turn.unit) (map (turn_of shape places) (range_with_len 0 (units_in shape))) turns are.each)

  differ : AllPairs (λ (u v : ℕ). u ≢ v) units
  differ = AllPairs-from_IsDistinct Decides-eqb units
      (IsDistinct-IsPermutation eqb (λ x y. nat_eq_equiv.symm x y) (range_with_len 0 (units_in shape)) units moved (IsDistinct-from_AllPairs Decides-eqb (range_with_len 0 (units_in shape)) (range_differs (units_in shape))))

  pub units_ordered : ArePlacesIn shape places → AreInOrder shape places units
  units_ordered here = record {
    each = moved;
    order = λ i j d lt inside.
        let none : Turn = record { number = 0; unit = 0 } in
        let last : j < length turns = rw length-map at inside in
        let first : i < length turns = omega arith in
        let mine = turn_is i none first in
        let other = turn_is j none last in
        let le : (get_or turns i none).number ≤ (get_or turns j none).number = are.rising i j none (omega arith) last in
        let number_i = ap (λ (turn : Turn). turn.number) mine.1 in
        let number_j = ap (λ (turn : Turn). turn.number) other.1 in
        let unit_i : get_or units i d ≡ (get_or turns i none).unit = get_or-map (λ (turn : Turn). turn.unit) turns i none d first in
        let unit_j : get_or units j d ≡ (get_or turns j none).unit = get_or-map (λ (turn : Turn). turn.unit) turns j none d last in
        let two : (get_or turns i none).unit ≢ (get_or turns j none).unit = λ same. differ i j d lt inside (unit_i ∙ same ∙ sym unit_j) in
        rw (unit_i, unit_j) (down shape.steps shape.loops places.tiles places.orders here (get_or turns i none).unit (get_or turns j none).unit mine.0 other.0
        (elim (cases_lt (number_of shape.steps shape.loops places.tiles places.orders (get_or turns i none).unit) (number_of shape.steps shape.loops places.tiles places.orders (get_or turns j none).unit)) [
          | inl less ↦ less
          | inr ge ↦ absurd (two (one shape.steps shape.loops places.tiles places.orders here (get_or turns i none).unit (get_or turns j none).unit mine.0 other.0 (omega (arith, number_i, number_j))))
        ]));
  }
