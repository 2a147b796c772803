-- The executor runs the renamed units of the source.
use Rattle.std.proofs.Common.{◌≡◌, ℕ, zero, suc, ◌<◌, ℤ, pos, Bool, true, None, Some, Option, List, [], ◌∷◌, map, slice_get, refl, ap, sym, ◌∙◌, subst, inl, inr, eqb}
use Rattle.std.specs.Prelude.{IsSome}
use Rattle.std.proofs.lemmas.Bool.{cases_Bool}
use Rattle.std.proofs.lemmas.Option.{slice_get-get_or}
use Rattle.spf_term.specs.Environment.{Environment}
use Rattle.spf_touch.specs.Actions as action
use Rattle.spf_touch.specs.Actions.{performed}
use Rattle.spf_touch.specs.Copy.{copied}
use Rattle.spf_touch.specs.Frame.{IsTouched, after_unit, blend_at, class_at}
use Rattle.spf_touch.specs.Noted.{noted, noted_all}
use Rattle.spf_touch.specs.Renaming.{Renaming, renamed_access, renamed_touch, renamed_touches, renamed_units, unpacked}
use Rattle.spf_touch.specs.RenamingLaw.{at_origins, class_there, same_test}
use Rattle.spf_touch.specs.declared.class.Class.{Class}
use Rattle.spf_touch.specs.declared.touch.Touch.{Touch}
use Rattle.spf_touch.proofs.Accessed.{accesses_hold}
use Rattle.spf_touch.proofs.ActionEffects.{actions_effect}
use Rattle.spf_kernel.specs.declared.tree.Loop.{Loop}
use Rattle.spf_kernel.specs.declared.tree.Tree.{Tree}
use Rattle.spf_space.specs.Units.{units_of}
use Rattle.spf_space.specs.declared.shape.LoopShape.{LoopShape}
use Rattle.spf_space.specs.declared.unit.Unit.{Unit}
use Rattle.spf_space.proofs.Textual.{stood}
use Rattle.spf_store.specs.Accesses.{accesses_of}
use Rattle.spf_store.specs.ActionEffect.{effect_is_performed}
use Rattle.spf_store.specs.ActionTrace.{items_fit}
use Rattle.spf_store.specs.Actions.{actions_of}
use Rattle.spf_store.specs.Behavior.{source_behavior, unit_at}
use Rattle.spf_store.specs.BehaviorLaw.{touches_are}
use Rattle.spf_store.specs.Event.{Event}
use Rattle.spf_store.specs.Needs.{OwnsAll}
use Rattle.spf_store.specs.Shaped.{loop_shape, loops_of, starts_of}
use Rattle.spf_store.specs.Source.{unit_effect, unit_trace}
use Rattle.spf_store.proofs.UnitAt.{unit_after}
use Rattle.spf_exec.specs.Executor.{executor_env, new_position}
use Rattle.spf_exec.specs.Meaning.{IsUnit, executor_effect, executor_trace, items_at, position_trace}
use Rattle.spf_exec.specs.declared.program.Moved.{Moved}

-- ---- noting renamed accesses

module _ (renaming : Renaming) where
  noted_there : (touches : List Touch) (e : ℕ) (c : Class) → noted (renamed_touches renaming touches) (renaming.to e) c ≡ renamed_touches renaming (noted touches e c)
  noted_there [] e c = refl
  noted_there (t ∷ touches) e c = elim (cases_Bool (eqb t.element e)) [
    | inl here ↦ rw (same_test renaming t.element e, here) refl
    | inr other ↦ rw (same_test renaming t.element e, other) (ap (λ (rest : List Touch). renamed_touch renaming t ∷ rest) (noted_there touches e c))
  ]

  pub all_noted_there : (touches : List Touch) (accesses : List (ℕ × Class)) →
      noted_all (renamed_touches renaming touches) (map (renamed_access renaming) accesses) ≡ renamed_touches renaming (noted_all touches accesses)
  all_noted_there touches [] = refl
  all_noted_there touches ((e, c) ∷ accesses) =
      ap (λ (of : List Touch). noted_all of (map (renamed_access renaming) accesses)) (noted_there touches e c) ∙ all_noted_there (noted touches e c) accesses

-- ---- a unit of the shape is one of a loop

record HasLoop (env : Environment) (loops : List Loop) (number : ℕ) (shape : LoopShape) : Type 0 where
  loop : Loop
  there : slice_get loops number ≡ Some loop
  shape_is : loop_shape env loop ≡ shape

has_loop : (env : Environment) (loops : List Loop) (number : ℕ) (shape : LoopShape) → slice_get (map (loop_shape env) loops) number ≡ Some shape → HasLoop env loops number shape
has_loop env [] number shape at = cc
has_loop env (each ∷ loops) zero shape at = record { loop = each; there = refl; shape_is = cc }
has_loop env (each ∷ loops) (suc number) shape at = let rest = has_loop env loops number shape at in record { loop = rest.loop; there = rest.there; shape_is = rest.shape_is }

module _ (env : Environment) (tree : Tree) (steps u : ℕ) (inside : u < (source_behavior env tree steps).count) where
  abbrev pub unit : Unit
  unit = unit_at env tree steps u

  pub is_unit : IsUnit env tree unit
  is_unit =
      let all = units_of steps (loops_of env tree) in
      let at : slice_get all u ≡ Some unit = slice_get-get_or all u (record { step = 0; loop_no = 0; position = 0 }) inside in
      let of = (stood steps (loops_of env tree) u unit at).0 in
      let it = has_loop env tree.loops unit.loop_no of.loop of.there in
      record { loop = it.loop; there = it.there; inside = subst (λ (shape : LoopShape). unit.position < shape.extent) (sym it.shape_is) of.position }

  module _ (moved : Moved) (orders packings : List (List ℤ)) (renaming : Renaming) where
    abbrev exec : Environment
    exec = executor_env env orders packings

    abbrev mine : List Event
    mine = executor_trace env tree moved orders packings unit

    abbrev touches : List Touch
    touches = renamed_touches renaming ((source_behavior env tree steps).touches u)

    mine_fits : action.touches_of (actions_of exec (starts_of env tree) mine) ≡ noted_all [] (accesses_of (starts_of env tree) mine)
    unfolding position_trace
    mine_fits = ap (noted_all []) (items_fit exec (starts_of env tree) (pos (new_position moved unit.loop_no unit.position) ∷ []) 1 (items_at env tree moved orders packings unit.loop_no (slice_get tree.loops unit.loop_no)))

    module _ (accesses : accesses_of (starts_of env tree) mine ≡ map (renamed_access renaming) (accesses_of (starts_of env tree) (unit_trace env tree unit))) where
      noted_mine : noted_all [] (accesses_of (starts_of env tree) mine) ≡ touches
      noted_mine =
          ap (noted_all []) accesses ∙ all_noted_there renaming [] (accesses_of (starts_of env tree) (unit_trace env tree unit)) ∙ ap (renamed_touches renaming) (sym (touches_are env tree steps u inside))

      pub mine_owned : (owns : ℕ → Bool) → ((e : ℕ) → IsTouched touches e → owns e ≡ true) → OwnsAll owns (accesses_of (starts_of env tree) mine)
      mine_owned owns own =
          accesses_hold (λ e. owns e ≡ true) (accesses_of (starts_of env tree) mine) (λ e touched. own e (subst (λ (of : List Touch). IsTouched of e) noted_mine touched))

      -- what isn't touched keeps its value
      untouched : (values : ℕ → ℤ) (x : ℕ) → class_at touches x ≡ None → executor_effect env tree moved orders packings unit values x ≡ values x
      untouched values x none =
          let actions = actions_of exec (starts_of env tree) mine in
          ap (λ (made : ℕ → ℤ). made x) (effect_is_performed exec (starts_of env tree) mine values) ∙ actions_effect actions values x
          ∙ ap (λ c. blend_at c (values x) (performed actions (copied (action.touches_of actions) values) x)) (ap (λ (of : List Touch). class_at of x) (mine_fits ∙ noted_mine) ∙ none)

      module _ (effects : (values : ℕ → ℤ) (e : ℕ) → executor_effect env tree moved orders packings unit values (renaming.to e) ≡ unit_effect env tree unit (unpacked renaming values) e) where
        touched_after : (values : ℕ → ℤ) (e : ℕ) → executor_effect env tree moved orders packings unit values (renaming.to e) ≡ after_unit (renamed_units renaming (source_behavior env tree steps)) u values (renaming.to e)
        touched_after values e =
            effects values e ∙ unit_after env tree steps u inside (unpacked renaming values) e
            ∙ sym (λ i. blend_at (class_there renaming ((source_behavior env tree steps).touches u) e i) (values (renaming.to e)) ((source_behavior env tree steps).given u (unpacked renaming values) (renaming.returns e i)))

        pub mine_after : (values : ℕ → ℤ) (x : ℕ) → executor_effect env tree moved orders packings unit values x ≡ after_unit (renamed_units renaming (source_behavior env tree steps)) u values x
        mine_after values x = by (class_at touches x) refl where
          by : (c : Option Class) → class_at touches x ≡ c → executor_effect env tree moved orders packings unit values x ≡ after_unit (renamed_units renaming (source_behavior env tree steps)) u values x
          by None is = untouched values x is ∙ sym (ap (λ c. blend_at c (values x) ((renamed_units renaming (source_behavior env tree steps)).given u values x)) is)
          by (Some c) is =
              at_origins renaming (λ y. executor_effect env tree moved orders packings unit values y ≡ after_unit (renamed_units renaming (source_behavior env tree steps)) u values y)
              ((source_behavior env tree steps).touches u) (λ e touched. touched_after values e) x (subst IsSome (sym is) refl)
