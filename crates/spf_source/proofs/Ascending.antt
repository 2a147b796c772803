-- The units of a kernel, run one after another and one by one.
use Rattle.std.proofs.Common.{◌≡◌, ℕ, zero, suc, ◌+◌, ◌<◌, ℤ, Bool, true, List, length, map, get_or, slice_get, Some, refl, ap, sym, ◌∙◌, subst, arith}
use Rattle.std.proofs.lemmas.List.{ext_get_or}
use Rattle.std.proofs.lemmas.List.FromFn.{get_or-map-range_with_len, length-map-range_with_len}
use Rattle.std.proofs.lemmas.Option.{get_or_from_slice_get}
use Rattle.std.specs.List.{range_with_len}
use mathlib.Core.Path.{fun_ext}
use Rattle.spf_term.specs.Environment.{Environment}
use Rattle.spf_touch.specs.Frame as frame
use Rattle.spf_touch.specs.Frame.{IsTouched, after_unit, after_units}
use Rattle.spf_touch.specs.declared.touch.Touch.{Touch}
use Rattle.spf_touch.proofs.Accessed.{accesses_hold}
use Rattle.spf_kernel.specs.declared.tree.Tree.{Tree}
use Rattle.spf_space.specs.Units.{units_of}
use Rattle.spf_space.specs.declared.unit.Unit.{Unit}
use Rattle.spf_store.specs.Accesses.{accesses_of}
use Rattle.spf_store.specs.FirstFault.{AreInRange, IsInRange}
use Rattle.spf_store.specs.Shaped.{loops_of, starts_of}
use Rattle.spf_store.specs.Source.{source_result, unit_effect, unit_trace, units_effect}
use Rattle.spf_store.proofs.UnitAt.{in_range, unit_after}
use Rattle.spf_store.specs.Behavior.{source_behavior, unit_at}
use Rattle.spf_store.specs.BehaviorLaw.{touches_are}
use Rattle.spf_store.specs.Needs.{OwnsAll}

-- a list is its elements in turn
in_turn : {A : Type 0} (xs : List A) (d : A) → map (λ n. get_or xs n d) (range_with_len 0 (length xs)) ≡ xs
in_turn {A = A} xs d =
    let at : ℕ → A = λ n. get_or xs n d in
    let long = length-map-range_with_len at 0 (length xs) in
    ext_get_or d (map at (range_with_len 0 (length xs))) xs long (λ i inside. get_or-map-range_with_len at 0 (length xs) i i d (omega (arith, long, inside)) (omega arith))

module _ (env : Environment) (tree : Tree) (steps : ℕ) where
  abbrev units : frame.Behavior
  units = source_behavior env tree steps

  abbrev all : List Unit
  all = units_of steps (loops_of env tree)

  run_from : (from n : ℕ) → from + n < units.count + 1 → (values : ℕ → ℤ) →
      after_units units (range_with_len from n) values ≡ units_effect env tree (map (unit_at env tree steps) (range_with_len from n)) values
  run_from from zero inside values = refl
  run_from from (suc n) inside values =
      run_from (from + 1) n (omega (arith, inside)) (after_unit units from values)
      ∙ ap (units_effect env tree (map (unit_at env tree steps) (range_with_len (from + 1) n))) (fun_ext (λ e. sym (unit_after env tree steps from (omega (arith, inside)) values e)))

  -- all units in ascending order
  pub ascending : (values : ℕ → ℤ) → after_units units (range_with_len 0 units.count) values ≡ source_result env tree steps values
  unfolding source_result
  ascending values =
      run_from 0 units.count (omega arith) values
      ∙ ap (λ (of : List Unit). units_effect env tree of values) (in_turn all (record { step = 0; loop_no = 0; position = 0 }))

  -- ---- the unit of an ordinal

  module _ (u : ℕ) (inside : u < units.count) where
    module _ (unit : Unit) (at : slice_get all u ≡ Some unit) where
      unit_is : unit_at env tree steps u ≡ unit
      unit_is = get_or_from_slice_get all u unit (record { step = 0; loop_no = 0; position = 0 }) at

      pub unit_range : (0 < steps → AreInRange env tree) → IsInRange env tree unit
      unit_range range = subst (IsInRange env tree) unit_is (in_range env tree steps u inside range)

      -- who owns what it touches owns what it accesses
      pub unit_own : (owns : ℕ → Bool) → ((e : ℕ) → IsTouched (units.touches u) e → owns e ≡ true) → OwnsAll owns (accesses_of (starts_of env tree) (unit_trace env tree unit))
      unit_own owns own =
          subst (λ (of : Unit). OwnsAll owns (accesses_of (starts_of env tree) (unit_trace env tree of))) unit_is
          (accesses_hold (λ e. owns e ≡ true) (accesses_of (starts_of env tree) (unit_trace env tree (unit_at env tree steps u)))
          (λ e touched. own e (subst (λ (touches : List Touch). IsTouched touches e) (sym (touches_are env tree steps u inside)) touched)))

      pub unit_done : (values : ℕ → ℤ) (e : ℕ) → unit_effect env tree unit values e ≡ after_unit units u values e
      unit_done values e = ap (λ (of : Unit). unit_effect env tree of values e) (sym unit_is) ∙ unit_after env tree steps u inside values e
