-- Each place of the list of all units has one unit, and places follow textual order.
use Rattle.std.proofs.Common.{◌≡◌, ℕ, zero, suc, ◌+◌, ◌-◌, ◌*◌, ◌/◌, ◌%◌, ◌<◌, ◌≤◌, ◌↔◌, inl, inr, List, [], ◌∷◌, length, take, slice_get, Some, refl, sym, subst, arith, add_assoc}
use Rattle.std.proofs.lemmas.Bool.{cases_lt, cases_order}
use Rattle.std.proofs.lemmas.Nat.{div-add-mod', mul-le}
use Rattle.std.proofs.lemmas.Option.{slice_get_within}
use Rattle.std.proofs.Math.Seq.{take-length}
use Rattle.std.proofs.Math.Nat.{div-lt_iff_lt-mul, mod-lt, suc-mul}
use Rattle.spf_space.specs.Layout.{iterations}
use Rattle.spf_space.specs.Places.{ordinal_of}
use Rattle.spf_space.specs.Units.{IsEarlier, IsUnitOf, loops_units, units_of}
use Rattle.spf_space.specs.declared.shape.LoopShape.{LoopShape}
use Rattle.spf_space.specs.declared.unit.Unit.{Unit}
use Rattle.spf_space.proofs.Standing.{before, in_all, in_step, iterations-cons, unit_at, units_length}

-- a loop, a position in it, and the place of both among the iterations of one step
record Located (loops : List LoopShape) (place : ℕ) : Type 0 where
  pub loop_no : ℕ
  pub loop : LoopShape
  pub position : ℕ
  pub there : slice_get loops loop_no ≡ Some loop
  pub within : position < loop.extent
  pub is : before loops loop_no + position ≡ place

located : (loops : List LoopShape) (place : ℕ) → place < iterations loops → Located loops place
located [] place lt = absurd (omega arith)
located (each ∷ loops) place lt = elim (cases_lt place each.extent) [
  | inl here ↦ record { loop_no = 0; loop = each; position = place; there = refl; within = here; is = omega arith }
  | inr past ↦
      let rest : Located loops (place - each.extent) = located loops (place - each.extent) (omega (arith, iterations-cons each loops)) in
      record { loop_no = suc rest.loop_no; loop = rest.loop; position = rest.position; there = rest.there; within = rest.within; is = omega (arith, iterations-cons each (take rest.loop_no loops), rest.is) }
]

-- a later loop has the whole of an earlier one before it
climbs : (loops : List LoopShape) (m n : ℕ) (each : LoopShape) → slice_get loops m ≡ Some each → m < n → before loops m + each.extent ≤ before loops n
climbs [] m n each e lt = cc
climbs (other ∷ loops) m zero each e lt = absurd (omega arith)
climbs (other ∷ loops) zero (suc n) each e lt = let same : other ≡ each = cc in rw (← same) (omega (arith, iterations-cons other (take n loops)))
climbs (other ∷ loops) (suc m) (suc n) each e lt =
    omega (arith, iterations-cons other (take m loops), iterations-cons other (take n loops), climbs loops m n each e (omega arith))

-- all loops have the whole of each one
in_reach : (loops : List LoopShape) (n : ℕ) (each : LoopShape) → slice_get loops n ≡ Some each → before loops n + each.extent ≤ iterations loops
in_reach loops n each e = rw take-length at (climbs loops n (length loops) each e (slice_get_within loops n each e))

module _ (steps : ℕ) (loops : List LoopShape) where
  pub stands : (u : Unit) → IsUnitOf steps loops u → slice_get (units_of steps loops) (ordinal_of loops u) ≡ Some u
  stands u is =
      rw add_assoc (in_all steps loops u.step (before loops u.loop_no + u.position) u is.step (in_step u.step loops u.loop_no is.loop u.position is.there is.position))

  pub ordinal_is_within : (u : Unit) → IsUnitOf steps loops u → ordinal_of loops u < steps * iterations loops
  ordinal_is_within u is = rw units_length at (slice_get_within (units_of steps loops) (ordinal_of loops u) u (stands u is))

  pub split_is_within : (n : ℕ) → n < length (units_of steps loops) → (0 < iterations loops) × (n / iterations loops < steps) × (n % iterations loops < iterations loops)
  split_is_within n lt = elim (cases_lt 0 (iterations loops)) [
    | inl pos ↦ (pos, (div-lt_iff_lt-mul pos).1 (rw units_length at lt), mod-lt n pos)
    | inr none ↦ absurd (omega (arith, units_length steps loops, mul-le steps (iterations loops) steps 0 (omega arith) none))
  ]

  pub split_stands : (n : ℕ) (u : Unit) → n < length (units_of steps loops) → slice_get (loops_units (n / iterations loops) 0 loops) (n % iterations loops) ≡ Some u → slice_get (units_of steps loops) n ≡ Some u
  split_stands n u lt e = rw div-add-mod' at (in_all steps loops (n / iterations loops) (n % iterations loops) u (split_is_within n lt).1 e)

  -- the unit at a place is one of the shape, and stands where its numbers say
  pub stood : (n : ℕ) (u : Unit) → slice_get (units_of steps loops) n ≡ Some u → IsUnitOf steps loops u × (n ≡ ordinal_of loops u)
  stood n u e =
      let s = split_is_within n (slice_get_within (units_of steps loops) n u e) in
      let l = located loops (n % iterations loops) s.2 in
      let v = unit_at (n / iterations loops) l.loop_no l.position in
      let is : IsUnitOf steps loops v = record { step = s.1; loop = l.loop; there = l.there; position = l.within } in
      let at : ordinal_of loops v ≡ n = omega (arith, l.is, div-add-mod' n (iterations loops)) in
      let here : slice_get (units_of steps loops) n ≡ Some v = rw at at (stands v is) in
      let same : v ≡ u = cc in
      subst (λ (w : Unit). IsUnitOf steps loops w × (n ≡ ordinal_of loops w)) same (is, sym at)

  pub ascends : (u v : Unit) → IsUnitOf steps loops u → IsUnitOf steps loops v → IsEarlier u v → ordinal_of loops u < ordinal_of loops v
  ascends u v is_u is_v (inl step) =
      omega (arith, in_reach loops u.loop_no is_u.loop is_u.there, is_u.position, suc-mul u.step (iterations loops), mul-le (suc u.step) (iterations loops) v.step (iterations loops) (omega arith) (omega arith))
  ascends u v is_u is_v (inr (step, inl number)) = rw step (omega (arith, climbs loops u.loop_no v.loop_no is_u.loop is_u.there number, is_u.position))
  ascends u v is_u is_v (inr (step, inr (number, position))) = rw (step, number) (omega arith)

  pub descends : (u v : Unit) → IsUnitOf steps loops u → IsUnitOf steps loops v → ordinal_of loops u < ordinal_of loops v → IsEarlier u v
  descends u v is_u is_v lt = elim (cases_order u.step v.step) [
    | inr (inl earlier) ↦ inl earlier
    | inr (inr later) ↦ absurd (never (inl later))
    | inl step ↦ elim (cases_order u.loop_no v.loop_no) [
      | inr (inl earlier) ↦ inr (step, inl earlier)
      | inr (inr later) ↦ absurd (never (inr (sym step, inl later)))
      | inl number ↦ elim (cases_lt u.position v.position) [
        | inl earlier ↦ inr (step, inr (number, earlier))
        | inr past ↦ let at = rw (step, number) at lt in absurd (omega arith)
      ]
    ]
  ]
    where
      never : IsEarlier v u → ⊥
      never earlier = omega (arith, ascends v u is_v is_u earlier)

  pub follows : (u v : Unit) (m n : ℕ) → slice_get (units_of steps loops) m ≡ Some u → slice_get (units_of steps loops) n ≡ Some v → (m < n) ↔ IsEarlier u v
  follows u v m n e f =
      let a = stood m u e in
      let b = stood n v f in
      (λ lt. descends u v a.0 b.0 (omega (arith, a.1, b.1)), λ earlier. omega (arith, a.1, b.1, ascends u v a.0 b.0 earlier))
