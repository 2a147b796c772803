-- The units of a loop, of a step and of all steps, and what each of them needs.
use Rattle.std.proofs.Common.{◌≡◌, ℕ, zero, suc, ◌+◌, ◌-◌, ◌<◌, ◌≤◌, ℤ, pos, ◌+ℤ◌, Bool, List, [], ◌∷◌, ◌++◌, All, length, map, drop, slice_get, Option, Some, None, refl, ap, sym, ◌∙◌, subst, arith, inl, inr}
use Rattle.std.specs.List.{flat_map, range_with_len}
use Rattle.std.proofs.lemmas.Bool.{cases_lt}
use Rattle.std.proofs.lemmas.List.{drop_all, drop_more, length-map}
use Rattle.std.proofs.lemmas.Option.{get_or_from_slice_get, slice_get_within}
use Rattle.spf_term.specs.Environment.{Environment}
use Rattle.spf_kernel.specs.Bounded.{IsBoundedTree}
use Rattle.spf_kernel.specs.declared.tree.Item.{Item}
use Rattle.spf_kernel.specs.declared.tree.Loop.{Loop}
use Rattle.spf_kernel.specs.declared.tree.Tree.{Tree}
use Rattle.spf_space.specs.Units.{loops_units, units_of}
use Rattle.spf_space.specs.declared.shape.LoopShape.{LoopShape}
use Rattle.spf_space.specs.declared.unit.Unit.{Unit}
use Rattle.spf_space.proofs.Standing.{in_step}
use Rattle.spf_store.specs.Accepted.{IsAccepted}
use Rattle.spf_store.specs.Accesses.{accesses_of}
use Rattle.spf_store.specs.Effect.{effect}
use Rattle.spf_store.specs.Event.{Event}
use Rattle.spf_store.specs.FirstFault.{AreInRange, IsInRange}
use Rattle.spf_store.specs.Shaped.{loop_shape, loops_of, outer_value, starts_of}
use Rattle.spf_store.specs.Source.{items_of, iteration_of, position_iteration, unit_effect, unit_trace, units_effect}
use Rattle.spf_store.specs.Trace.{items_trace}
use Rattle.spf_store.proofs.Layouts.{laid_out}
use Rattle.spf_store.proofs.SmallNumbers.{all_at}
use Rattle.spf_store.specs.Needs.{Allows, OwnsAll}
use Rattle.spf_source.specs.Ready.{OwnsCells, extent_of, loop_units, lower_of}
use Rattle.spf_source.proofs.Allowed.{accesses_owned, events_allowed}

slice_get-past : {A : Type 0} (xs : List A) (n : ℕ) → length xs ≤ n → slice_get xs n ≡ None
slice_get-past [] n past = refl
slice_get-past (x ∷ xs) zero past = absurd (omega arith)
slice_get-past (x ∷ xs) (suc n) past = slice_get-past xs n (omega arith)

some_at : {A : Type 0} (xs : List A) (n : ℕ) → n < length xs → (x : A) × (slice_get xs n ≡ Some x)
some_at [] n inside = absurd (omega arith)
some_at (x ∷ xs) zero inside = (x, refl)
some_at (x ∷ xs) (suc n) inside = some_at xs n (omega arith)

-- an element of a mapped list
pub slice_get-map : {A B : Type 0} (f : A → B) (xs : List A) (n : ℕ) (x : A) → slice_get xs n ≡ Some x → slice_get (map f xs) n ≡ Some (f x)
slice_get-map f [] n x at = cc
slice_get-map f (y ∷ xs) zero x at = let same : y ≡ x = cc in ap (λ z. Some (f z)) same
slice_get-map f (y ∷ xs) (suc n) x at = slice_get-map f xs n x at

module _ (env : Environment) (tree : Tree) where
  -- ---- one unit

  -- a unit of the kernel's shape is one of a loop of its tree
  pub of_shape : (loops : List Loop) (number : ℕ) (shape : LoopShape) → slice_get (map (loop_shape env) loops) number ≡ Some shape →
      (extent_of env tree (slice_get loops number) ≡ shape.extent) × (lower_of env tree (slice_get loops number) ≡ shape.lower)
  of_shape [] number shape at = cc
  of_shape (each ∷ loops) zero shape at = let same : loop_shape env each ≡ shape = cc in (ap (λ (of : LoopShape). of.extent) same, ap (λ (of : LoopShape). of.lower) same)
  of_shape (each ∷ loops) (suc number) shape at = of_shape loops number shape at

  pub there_is : (number position : ℕ) → position < extent_of env tree (slice_get tree.loops number) → number < length tree.loops
  there_is number position inside = elim (cases_lt number (length tree.loops)) [
    | inl here ↦ here
    | inr past ↦ absurd (let none = rw (slice_get-past tree.loops number past) at inside in omega (arith, none))
  ]

  module _ (unit : Unit) (each : Loop) (at : slice_get tree.loops unit.loop_no ≡ Some each) where
    abbrev events : List Event
    events = items_trace env ((outer_value env each.low +ℤ pos unit.position) ∷ []) 1 each.items

    pub iteration_is : iteration_of env tree unit ≡ outer_value env each.low +ℤ pos unit.position
    iteration_is = ap (λ (of : Option Loop). position_iteration env tree of unit.position) at

    trace_is : unit_trace env tree unit ≡ events
    unfolding unit_trace
    trace_is = ap (λ (of : Option Loop). items_trace env (position_iteration env tree of unit.position ∷ []) 1 (items_of env tree of)) at

    unit_effect_is : (values : ℕ → ℤ) → effect env (starts_of env tree) events values ≡ unit_effect env tree unit values
    unit_effect_is values = ap (λ (of : List Event). effect env (starts_of env tree) of values) (sym trace_is)

    unit_allowed : (owns : ℕ → Bool) → IsAccepted env tree → IsBoundedTree tree → OwnsAll owns (accesses_of (starts_of env tree) (unit_trace env tree unit)) → IsInRange env tree unit →
        All (Allows (starts_of env tree) owns) events
    unit_allowed owns accepted bounded own range =
        let laid = laid_out env tree accepted bounded bounded.few 0 (omega arith) in
        subst (All (Allows (starts_of env tree) owns)) trace_is (events_allowed env tree owns laid.adjacent laid.cells (unit_trace env tree unit) range own)

    module _ {iteration : List ℤ} {items : List Item} (starts : List ℕ) (is_iteration : iteration ≡ (outer_value env each.low +ℤ pos unit.position) ∷ []) (is_items : items ≡ each.items)
        (starts_are : starts ≡ starts_of env tree) where
      events_are : items_trace env iteration 1 items ≡ events
      events_are = λ i. items_trace env (is_iteration i) 1 (is_items i)

      pub may_run : (owns : ℕ → Bool) → IsAccepted env tree → IsBoundedTree tree → OwnsAll owns (accesses_of (starts_of env tree) (unit_trace env tree unit)) → IsInRange env tree unit →
          All (Allows starts owns) (items_trace env iteration 1 items)
      may_run owns accepted bounded own range =
          subst (λ (of : List ℕ). All (Allows of owns) (items_trace env iteration 1 items)) (sym starts_are)
          (subst (All (Allows (starts_of env tree) owns)) (sym events_are) (unit_allowed owns accepted bounded own range))

      pub effect_is : (values : ℕ → ℤ) → effect env starts (items_trace env iteration 1 items) values ≡ unit_effect env tree unit values
      effect_is values = (λ i. effect env (starts_are i) (events_are i) values) ∙ unit_effect_is values

  pub unit_in_range : (number position : ℕ) (each : Loop) → slice_get tree.loops number ≡ Some each → position < (loop_shape env each).extent → AreInRange env tree →
      IsInRange env tree (record { step = 0; loop_no = number; position = position })
  unit_in_range number position each at inside range =
      all_at (IsInRange env tree) (loops_units 0 0 (loops_of env tree)) _ _ range
      (in_step 0 (loops_of env tree) number (loop_shape env each) position (slice_get-map (loop_shape env) tree.loops number each at) inside)

  -- who owns all cells owns what a unit accesses
  pub unit_owned : (unit : Unit) (owns : ℕ → Bool) → IsAccepted env tree → IsBoundedTree tree → OwnsCells env tree owns → IsInRange env tree unit →
      OwnsAll owns (accesses_of (starts_of env tree) (unit_trace env tree unit))
  unit_owned unit owns accepted bounded own range =
      let laid = laid_out env tree accepted bounded bounded.few 0 (omega arith) in
      accesses_owned env tree owns laid.adjacent laid.cells own (unit_trace env tree unit) range

  -- ---- rows of units

  abbrev Made : Type 0
  Made = (ℕ → ℤ) → ℕ → ℤ

  effect-append : (first second : List Unit) (values : ℕ → ℤ) → units_effect env tree (first ++ second) values ≡ units_effect env tree second (units_effect env tree first values)
  effect-append [] second values = refl
  effect-append (unit ∷ first) second values = effect-append first second (unit_effect env tree unit values)

  -- the positions of a loop from one on
  module _ (number extent : ℕ) where
    abbrev pub unit_at : ℕ → Unit
    unit_at position = record { step = 0; loop_no = number; position = position }

    abbrev pub positions_left : ℕ → Made
    positions_left position = units_effect env tree (map unit_at (range_with_len position (extent - position)))

    pub next_position : (position : ℕ) → position < extent → (values : ℕ → ℤ) →
        positions_left position values ≡ positions_left (position + 1) (unit_effect env tree (unit_at position) values)
    next_position position inside values =
        let more : extent - position ≡ suc (extent - (position + 1)) = omega arith in
        ap (λ count. units_effect env tree (map unit_at (range_with_len position count)) values) more

    pub last_position : (position : ℕ) → extent ≤ position → (values : ℕ → ℤ) → positions_left position values ≡ values
    last_position position past values =
        let none : extent - position ≡ 0 = omega arith in
        ap (λ count. units_effect env tree (map unit_at (range_with_len position count)) values) none

  -- the loops of a step from one on
  abbrev pub loops_left : ℕ → Made
  loops_left number = units_effect env tree (loops_units 0 number (drop number (loops_of env tree)))

  next_loop_at : (number : ℕ) (each : Loop) → slice_get tree.loops number ≡ Some each → (values : ℕ → ℤ) →
      loops_left number values ≡ loops_left (number + 1) (units_effect env tree (loop_units env tree number) values)
  next_loop_at number each at values =
      let shape = loop_shape env each in
      let within = slice_get_within (loops_of env tree) number shape (slice_get-map (loop_shape env) tree.loops number each at) in
      let front = drop_more (loops_of env tree) number shape within ∙ ap (λ (first : LoopShape). first ∷ drop (number + 1) (loops_of env tree))
      (get_or_from_slice_get (loops_of env tree) number shape shape (slice_get-map (loop_shape env) tree.loops number each at)) in
      let rest = loops_units 0 (number + 1) (drop (number + 1) (loops_of env tree)) in
      ap (λ (loops : List LoopShape). units_effect env tree (loops_units 0 number loops) values) front
      ∙ effect-append (map (unit_at number 0) (range_with_len 0 shape.extent)) rest values
      ∙ ap (λ (of : Option Loop). units_effect env tree rest (units_effect env tree (map (unit_at number 0) (range_with_len 0 (extent_of env tree of))) values)) (sym at)

  pub next_loop : (number : ℕ) → number < length tree.loops → (values : ℕ → ℤ) →
      loops_left number values ≡ loops_left (number + 1) (units_effect env tree (loop_units env tree number) values)
  next_loop number inside values = let it = some_at tree.loops number inside in next_loop_at number it.0 it.1 values

  pub last_loop : (number : ℕ) → length tree.loops ≤ number → (values : ℕ → ℤ) → loops_left number values ≡ values
  last_loop number past values =
      ap (λ (loops : List LoopShape). units_effect env tree (loops_units 0 number loops) values)
      (drop_all number (loops_of env tree) (omega (arith, past, length-map tree.loops (loop_shape env))))

  -- ---- steps

  any_positions : (step number : ℕ) (positions : List ℕ) (values : ℕ → ℤ) →
      units_effect env tree (map (λ position. record { step = step; loop_no = number; position = position }) positions) values
      ≡ units_effect env tree (map (λ position. record { step = 0; loop_no = number; position = position }) positions) values
  unfolding unit_trace
  any_positions step number [] values = refl
  any_positions step number (position ∷ positions) values =
      any_positions step number positions (unit_effect env tree (record { step = 0; loop_no = number; position = position }) values)

  any_step : (step number : ℕ) (loops : List LoopShape) (values : ℕ → ℤ) →
      units_effect env tree (loops_units step number loops) values ≡ units_effect env tree (loops_units 0 number loops) values
  any_step step number [] values = refl
  any_step step number (each ∷ loops) values =
      let row : ℕ → List Unit = λ of. map (λ position. record { step = of; loop_no = number; position = position }) (range_with_len 0 each.extent) in
      effect-append (row step) (loops_units step (number + 1) loops) values
      ∙ any_step step (number + 1) loops (units_effect env tree (row step) values)
      ∙ ap (units_effect env tree (loops_units 0 (number + 1) loops)) (any_positions step number (range_with_len 0 each.extent) values)
      ∙ sym (effect-append (row 0) (loops_units 0 (number + 1) loops) values)

  abbrev step_units : ℕ → List Unit
  step_units step = loops_units step 0 (loops_of env tree)

  module _ (steps : ℕ) where
    abbrev pub steps_left : ℕ → Made
    steps_left step = units_effect env tree (flat_map step_units (range_with_len step (steps - step)))

    pub first_step : steps_left 0 ≡ units_effect env tree (units_of steps (loops_of env tree))
    unfolding units_of
    first_step = let all : steps - 0 ≡ steps = omega arith in ap (λ count. units_effect env tree (flat_map step_units (range_with_len 0 count))) all

    pub next_step : (step : ℕ) → step < steps → (values : ℕ → ℤ) → steps_left step values ≡ steps_left (step + 1) (units_effect env tree (step_units 0) values)
    next_step step inside values =
        let more : steps - step ≡ suc (steps - (step + 1)) = omega arith in
        let rest = flat_map step_units (range_with_len (step + 1) (steps - (step + 1))) in
        ap (λ count. units_effect env tree (flat_map step_units (range_with_len step count)) values) more
        ∙ effect-append (step_units step) rest values ∙ ap (units_effect env tree rest) (any_step step 0 (loops_of env tree) values)

    pub last_step : (step : ℕ) → steps ≤ step → (values : ℕ → ℤ) → steps_left step values ≡ values
    last_step step past values =
        let none : steps - step ≡ 0 = omega arith in
        ap (λ count. units_effect env tree (flat_map step_units (range_with_len step count)) values) none
