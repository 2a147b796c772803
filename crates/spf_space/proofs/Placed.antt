-- Places are compared by their numbers.
use Rattle.std.proofs.Common.{◌≡◌, ℕ, suc, ◌+◌, ◌*◌, ◌<◌, ◌↔◌, inl, inr, List, length, slice_get, slice_index_or, Some, IsTrue, nat_lt, refl, sym, ap, ◌∙◌, arith}
use Rattle.std.proofs.lemmas.Bool.{cases_order, lt-ltb, ltb-true}
use Rattle.std.proofs.lemmas.Nat.{mul-le}
use Rattle.std.proofs.lemmas.Option.{get_or_from_slice_get, slice_get-get_or, slice_get_within}
use Rattle.std.proofs.Math.Nat.{suc-mul}
use Rattle.spf_perm.specs.Perm.{at}
use Rattle.spf_space.specs.Places.{ArePlacesOf, IsBelow, moved, number_of, order_of, ordinal_of, place_of, unit_of}
use Rattle.spf_space.specs.Units.{IsUnitOf, units_of}
use Rattle.spf_space.specs.declared.shape.LoopShape.{LoopShape}
use Rattle.spf_space.specs.declared.unit.Unit.{Unit}
use Rattle.spf_space.proofs.Standing.{unit_at, units_length}
use Rattle.spf_space.proofs.Textual.{ascends, descends, ordinal_is_within, stands, stood}

-- numbers of two digits, of which the lower one is below the base
digits_below : (base s a t b : ℕ) → a < base → s < t → s * base + a < t * base + b
digits_below base s a t b within lt = omega (arith, suc-mul s base, mul-le (suc s) base t base (omega arith) (omega arith))

digits_same : (base s a t b : ℕ) → a < base → b < base → s * base + a ≡ t * base + b → (s ≡ t) × (a ≡ b)
digits_same base s a t b within inside same = elim (cases_order s t) [
  | inl e ↦ (e, let f : s * base ≡ t * base = ap (λ n. n * base) e in omega arith)
  | inr (inl lt) ↦ absurd (omega (arith, digits_below base s a t b within lt))
  | inr (inr gt) ↦ absurd (omega (arith, digits_below base t b s a inside gt))
]

one_value : (u v : Unit) → Some u ≡ Some v → u ≡ v
one_value u v same = cc

module _ (steps : ℕ) (loops : List LoopShape) where
  pub unit_there : (n : ℕ) → n < length (units_of steps loops) → slice_get (units_of steps loops) n ≡ Some (unit_of steps loops n)
  unfolding unit_of
  unit_there n lt = slice_get-get_or (units_of steps loops) n _ lt

  pub unit_read : (n : ℕ) (u : Unit) → slice_get (units_of steps loops) n ≡ Some u → unit_of steps loops n ≡ u
  unfolding unit_of
  unit_read n u e = get_or_from_slice_get (units_of steps loops) n u _ e

  pub unit_is : (n : ℕ) → n < length (units_of steps loops) → IsUnitOf steps loops (unit_of steps loops n)
  unit_is n lt = (stood steps loops n (unit_of steps loops n) (unit_there n lt)).0

  module _ (tiles : List ℕ) (orders : List (List ℕ)) (places : ArePlacesOf steps loops tiles orders) where
    pub position_within : (u : Unit) → IsUnitOf steps loops u → u.position < length (order_of orders u.loop_no)
    position_within u is = omega (arith, is.position, places.extents u.loop_no is.loop is.there)

    pub loop_within : (u : Unit) → IsUnitOf steps loops u → u.loop_no < length orders
    loop_within u is = omega (arith, places.each_loop, slice_get_within loops u.loop_no is.loop is.there)

    pub moved_is : (u : Unit) → IsUnitOf steps loops u → IsUnitOf steps loops (moved orders u)
    moved_is u is = record {
      step = is.step;
      loop = is.loop;
      there = is.there;
      position = omega (arith, (places.perms u.loop_no (loop_within u is)).below u.position (position_within u is), places.extents u.loop_no is.loop is.there);
    }

    abbrev turn : ℕ → Unit
    turn n = moved orders (unit_of steps loops n)

    turn_is : (n : ℕ) → n < length (units_of steps loops) → IsUnitOf steps loops (turn n)
    turn_is n lt = moved_is (unit_of steps loops n) (unit_is n lt)

    turn_within : (n : ℕ) → n < length (units_of steps loops) → ordinal_of loops (turn n) < length (units_of steps loops)
    turn_within n lt = rw units_length (ordinal_is_within steps loops (turn n) (turn_is n lt))

    pub up : (u v : ℕ) → u < length (units_of steps loops) → v < length (units_of steps loops) →
        IsBelow (place_of steps loops tiles orders u) (place_of steps loops tiles orders v) → number_of steps loops tiles orders u < number_of steps loops tiles orders v
    unfolding place_of number_of
    up u v ltu ltv (inl tile) = digits_below (length (units_of steps loops)) _ _ _ _ (turn_within u ltu) tile
    up u v ltu ltv (inr (tile, earlier)) = rw tile (omega (arith, ascends steps loops (turn u) (turn v) (turn_is u ltu) (turn_is v ltv) earlier))

    pub down : (u v : ℕ) → u < length (units_of steps loops) → v < length (units_of steps loops) →
        number_of steps loops tiles orders u < number_of steps loops tiles orders v → IsBelow (place_of steps loops tiles orders u) (place_of steps loops tiles orders v)
    unfolding place_of number_of
    down u v ltu ltv lt = elim (cases_order (slice_index_or tiles u 0) (slice_index_or tiles v 0)) [
      | inl tile ↦ inr (tile, descends steps loops (turn u) (turn v) (turn_is u ltu) (turn_is v ltv) (let same : slice_index_or tiles u 0 * length (units_of steps loops) ≡ slice_index_or tiles v 0 * length (units_of steps loops) = ap (λ n. n * length (units_of steps loops)) tile in omega arith))
      | inr (inl below) ↦ inl below
      | inr (inr above) ↦ absurd (omega (arith, digits_below (length (units_of steps loops)) (slice_index_or tiles v 0) (ordinal_of loops (turn v)) (slice_index_or tiles u 0) (ordinal_of loops (turn u)) (turn_within v ltv) above))
    ]

    -- two units that are run in one turn are one
    pub turn_of_one : (u v : Unit) → IsUnitOf steps loops u → IsUnitOf steps loops v → moved orders u ≡ moved orders v → u ≡ v
    turn_of_one u v is_u is_v same =
        let step : u.step ≡ v.step = ap (λ (w : Unit). w.step) same in
        let loop : u.loop_no ≡ v.loop_no = ap (λ (w : Unit). w.loop_no) same in
        let order : order_of orders v.loop_no ≡ order_of orders u.loop_no = ap (order_of orders) (sym loop) in
        let within : v.position < length (order_of orders u.loop_no) = rw order at (position_within v is_v) in
        let both : at (order_of orders u.loop_no) u.position ≡ at (order_of orders u.loop_no) v.position = ap (λ (w : Unit). w.position) same ∙ ap (λ list. at list v.position) order in
        let position = (places.perms u.loop_no (loop_within u is_u)).distinct u.position v.position (position_within u is_u) within both in
        ap (λ n. unit_at n u.loop_no u.position) step ∙ ap (λ n. unit_at v.step n u.position) loop ∙ ap (λ n. unit_at v.step v.loop_no n) position

    pub one : (u v : ℕ) → u < length (units_of steps loops) → v < length (units_of steps loops) → number_of steps loops tiles orders u ≡ number_of steps loops tiles orders v → u ≡ v
    unfolding number_of
    one u v ltu ltv same =
        let ordinals = (digits_same (length (units_of steps loops)) (slice_index_or tiles u 0) (ordinal_of loops (turn u)) (slice_index_or tiles v 0) (ordinal_of loops (turn v)) (turn_within u ltu) (turn_within v ltv) same).1 in
        let first = stands steps loops (turn u) (turn_is u ltu) in
        let second = stands steps loops (turn v) (turn_is v ltv) in
        let turns : turn u ≡ turn v = one_value _ _ (sym first ∙ ap (slice_get (units_of steps loops)) ordinals ∙ second) in
        let units = turn_of_one (unit_of steps loops u) (unit_of steps loops v) (unit_is u ltu) (unit_is v ltv) turns in
        (stood steps loops u (unit_of steps loops u) (unit_there u ltu)).1 ∙ ap (ordinal_of loops) units ∙ sym (stood steps loops v (unit_of steps loops v) (unit_there v ltv)).1

    -- the number of the unit u of ordinal n, of which the moved unit has this ordinal
    pub number_read : (n ordinal : ℕ) (u : Unit) → slice_get (units_of steps loops) n ≡ Some u → slice_get (units_of steps loops) ordinal ≡ Some (moved orders u)
        → slice_index_or tiles n 0 * length (units_of steps loops) + ordinal ≡ number_of steps loops tiles orders n
    unfolding number_of
    number_read n ordinal u there turned = rw (unit_read n u there, (stood steps loops ordinal (moved orders u) turned).1) refl

    -- the test of two numbers compares places
    pub compared : (u v m n : ℕ) → u < length (units_of steps loops) → v < length (units_of steps loops)
        → m ≡ number_of steps loops tiles orders u → n ≡ number_of steps loops tiles orders v
        → IsTrue (nat_lt m n) ↔ IsBelow (place_of steps loops tiles orders u) (place_of steps loops tiles orders v)
    compared u v m n ltu ltv first second =
        (λ test. down u v ltu ltv (let lt : m < n = ltb-true m n test in omega arith), λ below. lt-ltb m n (omega (arith, up u v ltu ltv below)))
