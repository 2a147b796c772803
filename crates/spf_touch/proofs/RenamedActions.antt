-- Actions on where their elements go name those places, and do there what the actions do.
use Rattle.std.proofs.Common.{◌≡◌, ℕ, ℤ, List, [], ◌∷◌, ◌++◌, map, inl, inr, refl, sym, ap, ◌∙◌, subst, eqb}
use Rattle.std.proofs.lemmas.Bool.{cases_Bool}
use Rattle.std.proofs.lemmas.List.{map-append}
use Rattle.std.specs.List.{flat_map}
use mathlib.Core.Path.{fun_ext}
use Rattle.spf_touch.specs.Actions.{Action, accesses, action_behavior, change, performed, touches_of}
use Rattle.spf_touch.specs.Copy.{copied}
use Rattle.spf_touch.specs.Frame.{IsTouched}
use Rattle.spf_touch.specs.Noted.{noted, noted_all}
use Rattle.spf_touch.specs.Renaming.{AreAlike, Renaming, renamed_access, renamed_action, renamed_actions, renamed_touch, renamed_touches, renamed_units, unpacked}
use Rattle.spf_touch.specs.RenamingLaw.{at_origins, class_there, same_test}
use Rattle.spf_touch.specs.declared.class.Class.{Class}
use Rattle.spf_touch.specs.declared.class.Class.TheVariants.{Read}
use Rattle.spf_touch.specs.declared.touch.Touch.{Touch}

module _ (renaming : Renaming) where
  reads_there : (reads : List ℕ) (last : ℕ × Class) →
      map (λ e. (e, Read)) (map renaming.to reads) ++ renamed_access renaming last ∷ [] ≡ map (renamed_access renaming) (map (λ e. (e, Read)) reads ++ last ∷ [])
  reads_there [] last = refl
  reads_there (e ∷ reads) last = ap (λ rest. (renaming.to e, Read) ∷ rest) (reads_there reads last)

  pub accesses_there : (action : Action) → accesses (renamed_action renaming action) ≡ map (renamed_access renaming) (accesses action)
  accesses_there action = reads_there action.made.reads (action.target, action.class)

  all_accesses_there : (actions : List Action) → flat_map accesses (renamed_actions renaming actions) ≡ map (renamed_access renaming) (flat_map accesses actions)
  all_accesses_there [] = refl
  all_accesses_there (action ∷ actions) =
      (λ i. accesses_there action i ++ all_accesses_there actions i) ∙ sym (map-append (renamed_access renaming) (accesses action) (flat_map accesses actions))

  noted_there : (ts : List Touch) (e : ℕ) (c : Class) → renamed_touches renaming (noted ts e c) ≡ noted (renamed_touches renaming ts) (renaming.to e) c
  noted_there [] e c = refl
  noted_there (t ∷ ts) e c = elim (cases_Bool (eqb t.element e)) [
    | inl here ↦ rw (same_test renaming t.element e, here) refl
    | inr other ↦ rw (same_test renaming t.element e, other) (ap (λ rest. renamed_touch renaming t ∷ rest) (noted_there ts e c))
  ]

  all_noted_there : (ts : List Touch) (xs : List (ℕ × Class)) →
      renamed_touches renaming (noted_all ts xs) ≡ noted_all (renamed_touches renaming ts) (map (renamed_access renaming) xs)
  all_noted_there ts [] = refl
  all_noted_there ts ((e, c) ∷ xs) = all_noted_there (noted ts e c) xs ∙ ap (λ touches. noted_all touches (map (renamed_access renaming) xs)) (noted_there ts e c)

  pub touches_there : (actions : List Action) → touches_of (renamed_actions renaming actions) ≡ renamed_touches renaming (touches_of actions)
  touches_there actions = ap (noted_all []) (all_accesses_there actions) ∙ sym (all_noted_there [] (flat_map accesses actions))

  pub performed_there : (actions : List Action) (values : ℕ → ℤ) → unpacked renaming (performed (renamed_actions renaming actions) values) ≡ performed actions (unpacked renaming values)
  performed_there [] values = refl
  performed_there (action ∷ actions) values =
      performed_there actions (change (renamed_action renaming action) values)
      ∙ ap (performed actions) (fun_ext (λ e. rw (same_test renaming e action.target) refl))

  copied_there : (actions : List Action) (values : ℕ → ℤ) →
      unpacked renaming (copied (touches_of (renamed_actions renaming actions)) values) ≡ copied (touches_of actions) (unpacked renaming values)
  copied_there actions values = fun_ext (λ e. rw (touches_there actions, class_there renaming (touches_of actions) e) refl)

  gives_there : (actions : List Action) (values : ℕ → ℤ) (e : ℕ) →
      performed (renamed_actions renaming actions) (copied (touches_of (renamed_actions renaming actions)) values) (renaming.to e)
      ≡ performed actions (copied (touches_of actions) (unpacked renaming values)) e
  gives_there actions values e =
      ap (λ (seen : ℕ → ℤ). seen e) (performed_there actions (copied (touches_of (renamed_actions renaming actions)) values)
      ∙ ap (performed actions) (copied_there actions values))

  -- units of renamed actions are the renamed units of the actions
  pub actions_alike : (units : ℕ → List Action) (count : ℕ) →
      AreAlike (action_behavior (λ u. renamed_actions renaming (units u)) count) (renamed_units renaming (action_behavior units count))
  actions_alike units count = record {
    count = refl;
    touch = λ u inside. touches_there (units u);
    give = λ u values inside x touched.
        at_origins renaming
        (λ y. performed (renamed_actions renaming (units u)) (copied (touches_of (renamed_actions renaming (units u))) values) y
        ≡ performed (units u) (copied (touches_of (units u)) (unpacked renaming values)) (renaming.back y)) (touches_of (units u))
        (λ e there. rw (renaming.returns e) (gives_there (units u) values e)) x (subst (λ touches. IsTouched touches x) (touches_there (units u)) touched);
  }
