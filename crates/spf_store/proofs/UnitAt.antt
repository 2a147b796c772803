-- The unit of an ordinal: it is in range, has a touch list, and makes of values what the behavior of the units says.
use Rattle.std.proofs.Common.{◌≡◌, ℕ, ◌%◌, ◌<◌, ℤ, All, None, Some, List, [], length, slice_get, ap, sym, ◌∙◌, subst, arith}
use Rattle.std.proofs.lemmas.List.{length-map}
use Rattle.std.proofs.lemmas.Option.{get_or_from_slice_get}
use Rattle.spf_term.specs.Environment.{Environment}
use Rattle.spf_touch.specs.Frame as frame
use Rattle.spf_touch.specs.Frame.{after_unit}
use Rattle.spf_touch.specs.Repeated.{touches_at}
use Rattle.spf_touch.specs.declared.touch.Touch.{Touch}
use Rattle.spf_touch.proofs.ActionEffects.{actions_effect}
use Rattle.spf_kernel.specs.declared.tree.Tree.{Tree}
use Rattle.spf_space.specs.Layout.{iterations}
use Rattle.spf_space.specs.Units.{loops_units}
use Rattle.spf_space.proofs.Standing.{step_length}
use Rattle.spf_space.proofs.Textual.{split_is_within}
use Rattle.spf_store.specs.Accesses.{touches_in, touches_of}
use Rattle.spf_store.specs.ActionEffect.{effect_is_performed}
use Rattle.spf_store.specs.Behavior.{source_behavior, unit_at}
use Rattle.spf_store.specs.BehaviorLaw.{actions_at, first_stands, give_is, same_trace, touch_is}
use Rattle.spf_store.specs.FirstFault.{AreInRange, IsInRange, outside, walked}
use Rattle.spf_store.specs.Shaped.{loops_of, starts_of}
use Rattle.spf_store.specs.Source.{unit_effect, unit_trace}
use Rattle.spf_store.proofs.SmallNumbers.{all_at}

module _ (env : Environment) (tree : Tree) (steps u : ℕ) (inside : u < (source_behavior env tree steps).count) where
  pub in_range : (0 < steps → AreInRange env tree) → IsInRange env tree (unit_at env tree steps u)
  in_range range =
      let some : 0 < steps = omega (arith, (split_is_within steps (loops_of env tree) u inside).1) in
      let first = all_at (IsInRange env tree) (loops_units 0 0 (loops_of env tree)) _ _ (range some) (first_stands env tree steps u inside) in
      subst (All (λ event. outside env tree event ≡ None)) (sym (same_trace env tree steps u inside)) first

  -- of touch lists for the units of the first step, one is its
  pub listed : (lists : List (List Touch)) → lists ≡ touches_of env tree steps → (0 < length lists) × (u % length lists < length lists)
  unfolding touches_of
  listed lists same =
      let split = split_is_within steps (loops_of env tree) u inside in
      let long : length lists ≡ iterations (loops_of env tree) =
      ap length same ∙ length-map (loops_units 0 0 (loops_of env tree)) (λ unit. touches_in (starts_of env tree) (walked env tree steps unit)) ∙ step_length 0 0 (loops_of env tree) in
      rw long (split.0, split.2)

  pub list_read : (lists : List (List Touch)) (list : List Touch) → lists ≡ touches_of env tree steps → slice_get lists (u % length lists) ≡ Some list → list ≡ (source_behavior env tree steps).touches u
  list_read lists list same at = sym (get_or_from_slice_get lists (u % length lists) list [] at) ∙ ap (λ (of : List (List Touch)). touches_at of u) same

  pub unit_after : (values : ℕ → ℤ) (e : ℕ) → unit_effect env tree (unit_at env tree steps u) values e ≡ after_unit (source_behavior env tree steps) u values e
  unit_after values e =
      let touch = sym (touch_is env tree steps u inside) in
      let give = sym (give_is env tree steps u inside values) in
      ap (λ (made : ℕ → ℤ). made e) (effect_is_performed env (starts_of env tree) (unit_trace env tree (unit_at env tree steps u)) values)
      ∙ actions_effect (actions_at env tree steps u) values e
      ∙ (λ i. frame.effect (touch i) (give i) values e)
