-- Arrays that lie one behind the other.
use Rattle.std.specs.Prelude.{ℕ, zero, suc, ◌≡◌, ◌+◌, ◌^◌, ◌<◌, ◌≤◌, List, [], ◌∷◌, slice_get, Some, take}
use Rattle.std.proofs.Common.{ap, arith, inl, inr, get_or}
use Rattle.std.proofs.lemmas.Bool.{cases_order}
use Rattle.std.proofs.lemmas.List.Sums.{sum_by-cons}
use Rattle.std.proofs.lemmas.Option.{get_or_from_slice_get}
use Rattle.spf_space.specs.Layout.{AreAdjacent, cells_in}
use Rattle.spf_space.specs.declared.shape.ArrayShape.{ArrayShape}
use Rattle.spf_store.specs.Stored.{HasPlace, IsAt}

cells_more : (array : ArrayShape) (arrays : List ArrayShape) → cells_in (array ∷ arrays) ≡ array.length + cells_in arrays
cells_more array arrays = sum_by-cons (λ (each : ArrayShape). each.length) array arrays

-- an array starts behind the cells of those before it
pub start_is : (from : ℕ) (arrays : List ArrayShape) (n : ℕ) (shape : ArrayShape) → AreAdjacent from arrays → slice_get arrays n ≡ Some shape →
    shape.start ≡ from + cells_in (take n arrays)
start_is from [] n shape adjacent at = cc
start_is from (array ∷ arrays) zero shape adjacent at = let same : array ≡ shape = cc in rw (← same) (omega (arith, adjacent.0))
start_is from (array ∷ arrays) (suc n) shape adjacent at =
    omega (arith, start_is (from + array.length) arrays n shape adjacent.1 at, cells_more array (take n arrays))

-- and ends before the cells end
pub end_within : (from : ℕ) (arrays : List ArrayShape) (n : ℕ) (shape : ArrayShape) → AreAdjacent from arrays → slice_get arrays n ≡ Some shape →
    (from ≤ shape.start) × (shape.start + shape.length ≤ from + cells_in arrays)
end_within from [] n shape adjacent at = cc
end_within from (array ∷ arrays) zero shape adjacent at =
    let same : array ≡ shape = cc in
    rw (← same) (omega (arith, adjacent.0), omega (arith, adjacent.0, cells_more array arrays))
end_within from (array ∷ arrays) (suc n) shape adjacent at =
    let more = end_within (from + array.length) arrays n shape adjacent.1 at in
    (omega (arith, more.0), omega (arith, more.1, cells_more array arrays))

-- of two arrays the one with the greater number starts where the other has ended
pub apart : (from : ℕ) (arrays : List ArrayShape) (m n : ℕ) (first second : ArrayShape) → AreAdjacent from arrays →
    slice_get arrays m ≡ Some first → slice_get arrays n ≡ Some second → m < n → first.start + first.length ≤ second.start
apart from [] m n first second adjacent p q less = cc
apart from (array ∷ arrays) m zero first second adjacent p q less = omega arith
apart from (array ∷ arrays) zero (suc n) first second adjacent p q less =
    let same : array ≡ first = cc in
    let more = end_within (from + array.length) arrays n second adjacent.1 q in
    rw (← same) (omega (arith, more.0, adjacent.0))
apart from (array ∷ arrays) (suc m) (suc n) first second adjacent p q less = apart (from + array.length) arrays m n first second adjacent.1 p q (omega arith)

-- an element is in one array only
pub one_place : (arrays : List ArrayShape) (array place other_array other_place e : ℕ) → AreAdjacent 0 arrays →
    IsAt arrays array place e → IsAt arrays other_array other_place e → (array ≡ other_array) × (place ≡ other_place)
one_place arrays array place other_array other_place e adjacent first second = elim (cases_order array other_array) [
  | inl same ↦
      let shapes : first.shape ≡ second.shape = cc in
      let starts : first.shape.start ≡ second.shape.start = ap (λ (shape : ArrayShape). shape.start) shapes in
      (same, omega (arith, first.lies, second.lies, starts))
  | inr (inl less) ↦
      let before = apart 0 arrays array other_array first.shape second.shape adjacent first.there second.there less in
      omega (arith, before, first.lies, second.lies, first.inside)
  | inr (inr more) ↦
      let before = apart 0 arrays other_array array second.shape first.shape adjacent second.there first.there more in
      omega (arith, before, first.lies, second.lies, second.inside)
]

pub element_fits : (arrays : List ArrayShape) (array place : ℕ) → AreAdjacent 0 arrays → cells_in arrays < 2 ^ 32 → HasPlace arrays array place →
    (d : ArrayShape) → (get_or arrays array d).start + place < 2 ^ 32
element_fits arrays array place adjacent few has d =
    let shape = get_or_from_slice_get arrays array has.shape d has.there in
    let end = end_within 0 arrays array has.shape adjacent has.there in
    rw shape (omega (arith, end.1, few, has.inside))
