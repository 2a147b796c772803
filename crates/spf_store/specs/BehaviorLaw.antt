-- The units of a kernel keep the frame law: they are lists of actions.
use Rattle.std.proofs.Common.{◌≡◌, ℕ, ◌+◌, ◌%◌, ◌/◌, ◌<◌, ℤ, List, [], ◌∷◌, ◌++◌, length, map, get_or, slice_get, Some, refl, ap, sym, ◌∙◌, arith}
use Rattle.std.proofs.lemmas.Bool.{ne_eqb}
use Rattle.std.proofs.lemmas.List.{get_or-map, length-map, map-append}
use Rattle.std.proofs.lemmas.Option.{get_or_from_slice_get, slice_get-get_or}
use Rattle.std.proofs.lemmas.Simd.{map-map}
use Rattle.std.specs.List.{range_with_len}
use Rattle.spf_term.specs.Environment.{Environment}
use Rattle.spf_touch.specs.ActionLaw.{action_law, law_of_same}
use Rattle.spf_touch.specs.Actions as action
use Rattle.spf_touch.specs.Actions.{Action, action_behavior, performed}
use Rattle.spf_touch.specs.Copy.{copied}
use Rattle.spf_touch.specs.Frame.{FrameLaw}
use Rattle.spf_touch.specs.Noted.{noted_all}
use Rattle.spf_touch.specs.Repeated.{touches_at}
use Rattle.spf_touch.specs.declared.touch.Touch.{Touch}
use Rattle.spf_kernel.specs.declared.tree.Tree.{Tree}
use Rattle.spf_space.specs.Layout.{iterations}
use Rattle.spf_space.specs.Units.{loops_units, units_of}
use Rattle.spf_space.specs.declared.shape.LoopShape.{LoopShape}
use Rattle.spf_space.specs.declared.unit.Unit.{Unit}
use Rattle.spf_space.proofs.Standing.{step_length}
use Rattle.spf_space.proofs.Textual.{split_is_within, split_stands}
use Rattle.spf_store.specs.Accesses.{touches_in, touches_of}
use Rattle.spf_store.specs.FirstFault.{walked}
use Rattle.spf_store.specs.Shaped.{loops_of, starts_of}
use Rattle.spf_store.specs.Source.{items_of, iteration_of, unit_trace}
use Rattle.spf_store.specs.ActionEffect.{effect_is_performed}
use Rattle.spf_store.specs.ActionTrace.{Fits, items_fit}
use Rattle.spf_store.specs.Actions.{actions_of}
use Rattle.spf_store.specs.Behavior.{source_behavior, unit_at}

abbrev none : Unit
none = record { step = 0; loop_no = 0; position = 0 }

-- the same unit in another step
abbrev pub in_step : ℕ → Unit → Unit
in_step step unit = record { step = step; loop_no = unit.loop_no; position = unit.position }

units_moved : (step number : ℕ) (loops : List LoopShape) → map (in_step step) (loops_units 0 number loops) ≡ loops_units step number loops
units_moved step number [] = refl
units_moved step number (each ∷ loops) =
    let at : ℕ → Unit = λ position. record { step = 0; loop_no = number; position = position } in
    let row = map at (range_with_len 0 each.extent) in
    let here = map-map (in_step step) at (range_with_len 0 each.extent) in
    let rest = units_moved step (number + 1) loops in
    map-append (in_step step) row (loops_units 0 (number + 1) loops) ∙ (λ i. here i ++ rest i)

module _ (env : Environment) (tree : Tree) where
  fits_unit : (unit : Unit) → Fits env (starts_of env tree) (unit_trace env tree unit)
  unfolding unit_trace
  fits_unit unit = items_fit env (starts_of env tree) (iteration_of env tree unit ∷ []) 1 (items_of env tree (slice_get tree.loops unit.loop_no))

  any_step : (step : ℕ) (unit : Unit) → unit_trace env tree (in_step step unit) ≡ unit_trace env tree unit
  unfolding unit_trace
  any_step step unit = refl

  abbrev loops : List LoopShape
  loops = loops_of env tree

  abbrev place : ℕ → ℕ
  place u = u % iterations loops

  -- the unit of the first step that does the same
  abbrev pub first_of : ℕ → Unit
  first_of u = get_or (loops_units 0 0 loops) (place u) none

  module _ (steps : ℕ) where
    abbrev count : ℕ
    count = length (units_of steps loops)

    pub first_stands : (u : ℕ) → u < count → slice_get (loops_units 0 0 loops) (place u) ≡ Some (first_of u)
    first_stands u inside = slice_get-get_or (loops_units 0 0 loops) (place u) none (omega (arith, step_length 0 0 loops, (split_is_within steps loops u inside).2))

    stands : (u : ℕ) → u < count → unit_at env tree steps u ≡ in_step (u / iterations loops) (first_of u)
    stands u inside =
        let step = u / iterations loops in
        let unit = in_step step (first_of u) in
        let length_is = step_length 0 0 loops in
        let within = (split_is_within steps loops u inside).2 in
        let moved : get_or (loops_units step 0 loops) (place u) none ≡ unit =
        ap (λ (units : List Unit). get_or units (place u) none) (sym (units_moved step 0 loops)) ∙ get_or-map (in_step step) (loops_units 0 0 loops) (place u) none none (omega (arith, length_is, within)) in
        let there : slice_get (loops_units step 0 loops) (place u) ≡ Some unit =
        slice_get-get_or (loops_units step 0 loops) (place u) none (omega (arith, step_length step 0 loops, within)) ∙ ap Some moved in
        get_or_from_slice_get (units_of steps loops) u unit none (split_stands steps loops u unit inside there)

    pub same_trace : (u : ℕ) → u < count → unit_trace env tree (unit_at env tree steps u) ≡ unit_trace env tree (first_of u)
    same_trace u inside = ap (unit_trace env tree) (stands u inside) ∙ any_step (u / iterations loops) (first_of u)

    -- the accesses of a unit are noted in its touch list
    pub touches_are : (u : ℕ) → u < count → touches_at (touches_of env tree steps) u ≡ touches_in (starts_of env tree) (unit_trace env tree (unit_at env tree steps u))
    unfolding touches_of
    touches_are u inside =
        let split = split_is_within steps loops u inside in
        let list : Unit → List Touch = λ unit. touches_in (starts_of env tree) (walked env tree steps unit) in
        let lists : List (List Touch) = map list (loops_units 0 0 loops) in
        let long : length lists ≡ iterations loops = length-map (loops_units 0 0 loops) list ∙ step_length 0 0 loops in
        let some : walked env tree steps (first_of u) ≡ unit_trace env tree (first_of u) = rw (ne_eqb steps 0 (λ no_step. omega (arith, split.1))) refl in
        ap (λ (n : ℕ). get_or lists (u % n) []) long
        ∙ get_or-map list (loops_units 0 0 loops) (place u) none [] (omega (arith, step_length 0 0 loops, split.2))
        ∙ ap (touches_in (starts_of env tree)) (some ∙ sym (same_trace u inside))

    -- the actions of a unit
    abbrev pub actions_at : ℕ → List Action
    actions_at u = actions_of env (starts_of env tree) (unit_trace env tree (unit_at env tree steps u))

    pub touch_is : (u : ℕ) → u < count → touches_at (touches_of env tree steps) u ≡ action.touches_of (actions_at u)
    touch_is u inside = touches_are u inside ∙ ap (noted_all []) (sym (fits_unit (unit_at env tree steps u)))

    pub give_is : (u : ℕ) → u < count → (values : ℕ → ℤ) →
        (source_behavior env tree steps).given u values ≡ performed (actions_at u) (copied (action.touches_of (actions_at u)) values)
    give_is u inside values =
        effect_is_performed env (starts_of env tree) (unit_trace env tree (unit_at env tree steps u)) (copied (touches_at (touches_of env tree steps) u) values)
        ∙ ap (λ (touches : List Touch). performed (actions_at u) (copied touches values)) (touch_is u inside)

    -- the units of a kernel keep the frame law
    pub source_law : FrameLaw (source_behavior env tree steps)
    source_law = law_of_same (source_behavior env tree steps) (action_behavior actions_at count) (λ u inside. inside) touch_is give_is (action_law actions_at count)
