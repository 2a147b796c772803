-- Units that don't conflict may be swapped, and leave alone what the others look at.
use Rattle.std.proofs.Common.{◌≡◌, ℕ, ℤ, ◌<◌, true, Option, Some, None, List, [], ◌∷◌, refl, sym, ap, ◌∙◌}
use mathlib.Core.Path.{fun_ext}
use Rattle.std.specs.Prelude.{IsSome}
use Rattle.spf_touch.specs.Blend.{blend, is_reduction}
use Rattle.spf_touch.specs.Conflict.{Conflict, is_shared}
use Rattle.spf_touch.specs.Copy.{class_of, copy_at}
use Rattle.spf_touch.specs.Frame.{Behavior, FrameLaw, SeenAlike, after_unit, after_units, blend_at, class_at, is_seen}
use Rattle.spf_touch.specs.ActionLaw.{copy_from_seen}
use Rattle.spf_touch.specs.Ordered.{is_in}
use Rattle.spf_touch.proofs.Blends.{blend_assoc, blend_comm}
use Rattle.spf_touch.proofs.Classes.{is_free, free_from, free_keeps, free_of_all, shared_same}
use Rattle.spf_touch.proofs.Members.{in_head, in_tail}
use Rattle.spf_touch.specs.declared.class.Class.{Class}
use Rattle.spf_touch.specs.declared.class.Class.TheVariants.{Read, Write, Add}

reduction_swap : (c : Class) (old x y : ℤ) → is_reduction c ≡ true → blend c (blend c old x) y ≡ blend c (blend c old y) x
reduction_swap c old x y r = blend_assoc c old x y r ∙ ap (blend c old) (blend_comm c x y r) ∙ sym (blend_assoc c old y x r)

blend_swap : (c : Class) (old x y : ℤ) → is_shared c c ≡ true → blend c (blend c old x) y ≡ blend c (blend c old y) x
blend_swap Read old x y h = refl
blend_swap Write old x y h = cc
blend_swap Add old x y h = reduction_swap Add old x y refl

-- one element under two units: x and y are what they give where they run first, x' and y' where they run second
at_swap : (c d : Option Class) (old x x' y y' : ℤ) → is_free c d ≡ true → (IsSome c → x ≡ x') → (IsSome d → y ≡ y') →
    blend_at d (blend_at c old x) y' ≡ blend_at c (blend_at d old y) x'
at_swap None None old x x' y y' f g h = refl
at_swap None (Some d) old x x' y y' f g h = rw (h refl) refl
at_swap (Some c) None old x x' y y' f g h = rw (g refl) refl
at_swap (Some c) (Some d) old x x' y y' f g h =
    let same = shared_same c d f in
    rw (g refl, h refl, ← same) (blend_swap c old x' y' (rw (← same) at f))

module _ (units : Behavior) (law : FrameLaw units) where
  -- a unit looks at nothing that a unit free of it changes
  alike_after : (u v : ℕ) (values : ℕ → ℤ) → (Conflict (units.touches u) (units.touches v) → ⊥) → SeenAlike (units.touches u) values (after_unit units v values)
  alike_after u v values n e k = sym (free_keeps (class_at (units.touches u) e) (class_at (units.touches v) e) (values e) _ (free_from _ _ n e) k)

  pub swapped : (u v : ℕ) (values : ℕ → ℤ) → u < units.count → v < units.count →
      (Conflict (units.touches u) (units.touches v) → ⊥) → (Conflict (units.touches v) (units.touches u) → ⊥) →
      after_unit units v (after_unit units u values) ≡ after_unit units u (after_unit units v values)
  swapped u v values bu bv n m =
      fun_ext (λ e. at_swap (class_at (units.touches u) e) (class_at (units.touches v) e) (values e) _ _ _ _ (free_from _ _ n e)
      (law.frame u values (after_unit units v values) bu (alike_after u v values n) e)
      (law.frame v values (after_unit units u values) bv (alike_after v u values m) e))

  -- units that conflict with none of a list change nothing at which the list looks
  pub kept : (us vs : List ℕ) (values : ℕ → ℤ) → ((u v : ℕ) → is_in us u ≡ true → is_in vs v ≡ true → Conflict (units.touches v) (units.touches u) → ⊥) →
      (e : ℕ) → is_seen (class_of units.touches vs e) ≡ true → after_units units us values e ≡ values e
  kept [] vs values n e k = refl
  kept (u ∷ us) vs values n e k =
      kept us vs (after_unit units u values) (λ w v i j. n w v (in_tail u us w i) j) e k ∙
      free_keeps (class_of units.touches vs e) (class_at (units.touches u) e) (values e) _
      (free_of_all units.touches vs e _ (λ v j. free_from _ _ (n u v (in_head u us) j) e)) k

-- a copy for a list stays the same while units run that conflict with none of it
pub copy_kept : (units : Behavior) → FrameLaw units → (us vs : List ℕ) (values : ℕ → ℤ) →
    ((u v : ℕ) → is_in us u ≡ true → is_in vs v ≡ true → Conflict (units.touches v) (units.touches u) → ⊥) →
    (e : ℕ) → copy_at (class_of units.touches vs e) (after_units units us values e) ≡ copy_at (class_of units.touches vs e) (values e)
copy_kept units law us vs values n e = copy_from_seen (class_of units.touches vs e) _ _ (kept units law us vs values n e)
