-- The frame law of renamed units, and of units that are alike.
use Rattle.std.specs.Prelude.{◌≡◌, ℕ, ◌<◌, true, List, [], ◌∷◌, refl, FitsSigned}
use Rattle.std.specs.Int.{w64}
use Rattle.std.proofs.Common.{ap, ◌∙◌, sym, subst, inl, inr, eqb}
use Rattle.std.proofs.lemmas.Bool.{cases_Bool, cases_eq, eq-eqb, eqb-true, ne_eqb}
use Rattle.spf_touch.specs.ActionLaw.{law_of_alike, reduced_touched}
use Rattle.spf_touch.specs.Frame.{Behavior, FrameLaw, IsOnce, IsTouched, SeenAlike, class_at, is_reduced}
use Rattle.spf_touch.specs.Renaming.{AreAlike, Renaming, renamed_touches, renamed_units, unpacked}
use Rattle.spf_touch.specs.declared.touch.Touch.{Touch}

-- units that are alike keep the frame law together
pub alike_law : (mine theirs : Behavior) → AreAlike mine theirs → FrameLaw theirs → FrameLaw mine
alike_law mine theirs alike =
    law_of_alike mine theirs (λ u inside. subst (λ count. u < count) alike.count inside) alike.touch alike.give

module _ (renaming : Renaming) where
  -- elements that go to one place are one
  pub one_origin : (d e : ℕ) → renaming.to d ≡ renaming.to e → d ≡ e
  one_origin d e same = sym (renaming.returns d) ∙ ap renaming.back same ∙ renaming.returns e

  pub same_test : (d e : ℕ) → eqb (renaming.to d) (renaming.to e) ≡ eqb d e
  same_test d e = elim (cases_eq d e) [
    | inl same ↦ eq-eqb _ _ (ap renaming.to same) ∙ sym (eq-eqb d e same)
    | inr other ↦ ne_eqb _ _ (λ same. other (one_origin d e same)) ∙ sym (ne_eqb d e other)
  ]

  -- an element is touched as the place to which it goes is by the renamed touches
  pub class_there : (touches : List Touch) (e : ℕ) → class_at (renamed_touches renaming touches) (renaming.to e) ≡ class_at touches e
  class_there [] e = refl
  class_there (t ∷ touches) e = rw (same_test t.element e, class_there touches e) refl

  -- what renamed touches touch comes from some element
  origin : (touches : List Touch) (x : ℕ) → IsTouched (renamed_touches renaming touches) x → (e : ℕ) × (renaming.to e ≡ x)
  origin [] x touched = cc
  origin (t ∷ touches) x touched = elim (cases_Bool (eqb (renaming.to t.element) x)) [
    | inl here ↦ (t.element, eqb-true _ x here)
    | inr other ↦ origin touches x (rw other at touched)
  ]

  -- what holds where elements go holds of all that renamed touches touch
  pub at_origins : (P : ℕ → Type 0) (touches : List Touch) → ((e : ℕ) → IsTouched touches e → P (renaming.to e)) →
      (x : ℕ) → IsTouched (renamed_touches renaming touches) x → P x
  at_origins P touches all x touched =
      let from = origin touches x touched in
      subst P from.1 (all from.0 (rw (← from.1, class_there) at touched))

  once_there : (touches : List Touch) → IsOnce touches → IsOnce (renamed_touches renaming touches)
  once_there [] once = once
  once_there (t ∷ touches) once = (class_there touches t.element ∙ once.0, once_there touches once.1)

  -- renamed units keep the frame law
  pub renamed_law : (units : Behavior) → FrameLaw units → FrameLaw (renamed_units renaming units)
  renamed_law units law = record {
    once = λ u inside. once_there (units.touches u) (law.once u inside);
    frame = λ u values others inside alike.
        let same : SeenAlike (units.touches u) (unpacked renaming values) (unpacked renaming others) = λ e seen. alike (renaming.to e) (rw (class_there (units.touches u) e) seen) in
        at_origins (λ x. units.given u (unpacked renaming values) (renaming.back x) ≡ units.given u (unpacked renaming others) (renaming.back x)) (units.touches u)
        (λ e touched. rw (renaming.returns e) (law.frame u (unpacked renaming values) (unpacked renaming others) inside same e touched));
    fits = λ u values x inside reduced.
        at_origins (λ y. is_reduced (class_at (renamed_touches renaming (units.touches u)) y) ≡ true → FitsSigned w64 (units.given u (unpacked renaming values) (renaming.back y)))
        (units.touches u)
        (λ e touched r. rw (renaming.returns e) (law.fits u (unpacked renaming values) e inside (rw (class_there (units.touches u) e) at r)))
        x (reduced_touched (class_at (renamed_touches renaming (units.touches u)) x) reduced) reduced;
  }
