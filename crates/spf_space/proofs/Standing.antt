-- Where a unit stands in the list of all units.
use Rattle.std.proofs.Common.{◌≡◌, ℕ, zero, suc, ◌+◌, ◌*◌, ◌<◌, ◌≤◌, List, [], ◌∷◌, ◌++◌, length, map, take, slice_get, Some, refl, ap, ◌∙◌, arith, length-append}
use Rattle.std.specs.List.{flat_map, range_with_len}
use Rattle.std.proofs.lemmas.List.FromFn.{length-map-range_with_len, get_or-map-range_with_len}
use Rattle.std.proofs.lemmas.List.Sums.{sum_by-cons}
use Rattle.std.proofs.lemmas.Nat.{mul-le}
use Rattle.std.proofs.lemmas.Option.{slice_get-get_or}
use Rattle.std.proofs.Math.Nat.{suc-mul}
use Rattle.spf_space.specs.Layout.{iterations}
use Rattle.spf_space.specs.Units.{loops_units, units_of}
use Rattle.spf_space.specs.declared.shape.LoopShape.{LoopShape}
use Rattle.spf_space.specs.declared.unit.Unit.{Unit}

module _ {A : Type 0} where
  at_left : (xs ys : List A) (n : ℕ) (x : A) → slice_get xs n ≡ Some x → slice_get (xs ++ ys) n ≡ Some x
  at_left [] ys n x e = cc
  at_left (y ∷ xs) ys zero x e = e
  at_left (y ∷ xs) ys (suc n) x e = at_left xs ys n x e

  at_right : (xs ys : List A) (n : ℕ) → slice_get (xs ++ ys) (length xs + n) ≡ slice_get ys n
  at_right [] ys n = ap (slice_get ys) (omega arith)
  at_right (x ∷ xs) ys n = let e : length (x ∷ xs) + n ≡ suc (length xs + n) = omega arith in ap (slice_get ((x ∷ xs) ++ ys)) e ∙ at_right xs ys n

  at_number : (f : ℕ → A) (count n : ℕ) → n < count → slice_get (map f (range_with_len 0 count)) n ≡ Some (f n)
  at_number f count n lt =
      slice_get-get_or (map f (range_with_len 0 count)) n (f n) (rw length-map-range_with_len lt) ∙ ap Some (get_or-map-range_with_len f 0 count n n (f n) lt (omega arith))

  -- rows of one width, one behind the other
  module _ (row : ℕ → List A) (width : ℕ) (wide : (n : ℕ) → length (row n) ≡ width) where
    rows_length : (from count : ℕ) → length (flat_map row (range_with_len from count)) ≡ count * width
    rows_length from zero = omega arith
    rows_length from (suc count) = length-append (row from) (flat_map row (range_with_len (from + 1) count)) ∙ omega (arith, wide from, rows_length (from + 1) count, suc-mul count width)

    in_row : (from count n m : ℕ) (x : A) → n < count → slice_get (row (from + n)) m ≡ Some x → slice_get (flat_map row (range_with_len from count)) (n * width + m) ≡ Some x
    in_row from zero n m x lt e = absurd (omega arith)
    in_row from (suc count) zero m x lt e =
        let first : from + 0 ≡ from = omega arith in
        let place : 0 * width + m ≡ m = omega arith in
        rw place (at_left (row from) _ m x (rw first at e))
    in_row from (suc count) (suc n) m x lt e =
        let later : from + suc n ≡ (from + 1) + n = omega arith in
        let place : suc n * width + m ≡ length (row from) + (n * width + m) = omega (arith, wide from, suc-mul n width) in
        rw place (at_right (row from) _ (n * width + m) ∙ in_row (from + 1) count n m x (omega arith) (rw later at e))

-- how many iterations the first loops have
abbrev pub before : List LoopShape → ℕ → ℕ
before loops n = iterations (take n loops)

pub iterations-cons : (each : LoopShape) (loops : List LoopShape) → iterations (each ∷ loops) ≡ each.extent + iterations loops
iterations-cons each loops = sum_by-cons (λ (l : LoopShape). l.extent) each loops

-- all loops have the iterations of each one and of those before it
pub reach : (loops : List LoopShape) (n extent : ℕ) → n < length loops → ((each : LoopShape) → slice_get loops n ≡ Some each → extent ≡ each.extent)
    → before loops n + extent ≤ iterations loops
reach [] n extent lt is = absurd (omega arith)
reach (each ∷ loops) zero extent lt is = omega (arith, iterations-cons each loops, is each refl)
reach (each ∷ loops) (suc n) extent lt is = omega (arith, iterations-cons each loops, iterations-cons each (take n loops), reach loops n extent (omega arith) is)

-- all steps have the iterations of the steps before one, and in it those of each loop and of the loops before it
pub reach_in_step : (steps : ℕ) (loops : List LoopShape) (step n extent : ℕ) → step < steps → n < length loops → ((each : LoopShape) → slice_get loops n ≡ Some each → extent ≡ each.extent)
    → step * iterations loops + before loops n + extent ≤ steps * iterations loops
reach_in_step steps loops step n extent low lt is =
    omega (arith, reach loops n extent lt is, mul-le (step + 1) (iterations loops) steps (iterations loops) (omega arith) (omega arith))

abbrev pub unit_at : ℕ → ℕ → ℕ → Unit
unit_at step loop_no position = record { step = step; loop_no = loop_no; position = position }

pub step_length : (step number : ℕ) (loops : List LoopShape) → length (loops_units step number loops) ≡ iterations loops
step_length step number [] = refl
step_length step number (each ∷ loops) =
    let f : ℕ → Unit = unit_at step number in
    length-append (map f (range_with_len 0 each.extent)) (loops_units step (number + 1) loops)
    ∙ omega (arith, length-map-range_with_len f 0 each.extent, step_length step (number + 1) loops, iterations-cons each loops)

in_step_from : (step number : ℕ) (loops : List LoopShape) (n : ℕ) (each : LoopShape) (position : ℕ) → slice_get loops n ≡ Some each → position < each.extent
    → slice_get (loops_units step number loops) (before loops n + position) ≡ Some (unit_at step (number + n) position)
in_step_from step number [] n each position e lt = cc
in_step_from step number (other ∷ loops) zero each position e lt =
    let same : other ≡ each = cc in
    let here : number + 0 ≡ number = omega arith in
    let place : before (other ∷ loops) 0 + position ≡ position = omega arith in
    rw (place, here) (at_left (map (unit_at step number) (range_with_len 0 other.extent)) _ position _ (at_number (unit_at step number) other.extent position (rw same lt)))
in_step_from step number (other ∷ loops) (suc n) each position e lt =
    let f : ℕ → Unit = unit_at step number in
    let later : number + suc n ≡ (number + 1) + n = omega arith in
    let place : before (other ∷ loops) (suc n) + position ≡ length (map f (range_with_len 0 other.extent)) + (before loops n + position) =
    omega (arith, length-map-range_with_len f 0 other.extent, iterations-cons other (take n loops)) in
    rw (place, later) (at_right (map f (range_with_len 0 other.extent)) _ (before loops n + position) ∙ in_step_from step (number + 1) loops n each position e lt)

-- where a unit stands among those of one step
pub in_step : (step : ℕ) (loops : List LoopShape) (n : ℕ) (each : LoopShape) (position : ℕ) → slice_get loops n ≡ Some each → position < each.extent
    → slice_get (loops_units step 0 loops) (before loops n + position) ≡ Some (unit_at step n position)
in_step step loops n each position e lt = let first : 0 + n ≡ n = omega arith in rw first at (in_step_from step 0 loops n each position e lt)

pub units_length : (steps : ℕ) (loops : List LoopShape) → length (units_of steps loops) ≡ steps * iterations loops
unfolding units_of
units_length steps loops = rows_length (λ step. loops_units step 0 loops) (iterations loops) (λ step. step_length step 0 loops) 0 steps

a_factor : (steps count : ℕ) → 0 < steps * count → 0 < count
a_factor steps zero h = absurd (omega arith)
a_factor steps (suc count) h = omega arith

-- where there is a unit a step has one
pub some_iterations : (steps : ℕ) (loops : List LoopShape) → 0 < length (units_of steps loops) → 0 < iterations loops
some_iterations steps loops some = a_factor steps (iterations loops) (rw units_length at some)

-- where a unit of one step stands among all
pub in_all : (steps : ℕ) (loops : List LoopShape) (step place : ℕ) (u : Unit) → step < steps → slice_get (loops_units step 0 loops) place ≡ Some u
    → slice_get (units_of steps loops) (step * iterations loops + place) ≡ Some u
unfolding units_of
in_all steps loops step place u lt e =
    let first : 0 + step ≡ step = omega arith in
    in_row (λ step. loops_units step 0 loops) (iterations loops) (λ step. step_length step 0 loops) 0 steps step place u lt (rw first e)
