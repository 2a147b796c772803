-- A runner at a unit: which items it runs, where, and what they do.
use Rattle.std.proofs.Common.{◌≡◌, ℕ, zero, suc, ◌+◌, ◌<◌, ℤ, pos, Bool, All, None, Some, List, [], ◌∷◌, length, get_or, slice_get, ap, sym, ◌∙◌, subst, arith}
use Rattle.std.proofs.lemmas.Option.{get_or_from_slice_get, slice_get_within}
use Rattle.spf_perm.specs.Perm.{IsPerm}
use Rattle.spf_term.specs.Environment.{Environment}
use Rattle.spf_touch.specs.Renaming.{Renaming}
use Rattle.spf_touch.specs.declared.touch.Touch.{Touch}
use Rattle.spf_kernel.specs.declared.tree.Item.{Item}
use Rattle.spf_kernel.specs.declared.tree.Loop.{Loop}
use Rattle.spf_kernel.specs.declared.tree.Tree.{Tree}
use Rattle.spf_space.specs.Units.{units_of}
use Rattle.spf_space.specs.declared.shape.LoopShape.{LoopShape}
use Rattle.spf_space.specs.declared.shape.Shape.{Shape}
use Rattle.spf_space.specs.declared.unit.Unit.{Unit}
use Rattle.spf_pack.specs.Packing.{renaming_of}
use Rattle.spf_store.specs.Behavior.{source_behavior, unit_at}
use Rattle.spf_store.specs.Effect.{effect}
use Rattle.spf_store.specs.Event.{Event}
use Rattle.spf_store.specs.FirstFault.{IsInRange}
use Rattle.spf_store.specs.Needs.{Allows}
use Rattle.spf_store.specs.Shaped.{loops_of, starts_of}
use Rattle.spf_store.specs.Small.{IsSmallItem}
use Rattle.spf_store.specs.Trace.{items_trace}
use Rattle.spf_exec.specs.Executor.{IsOfMoved, executor_env, moved_to, new_position}
use Rattle.spf_exec.specs.Generated.{bodies_from, body_of}
use Rattle.spf_exec.specs.Meaning.{AreBound, IsUnit, executor_effect, executor_trace}
use Rattle.spf_exec.specs.Moves.{packings_of}
use Rattle.spf_exec.specs.Rewritten.{executor_items}
use Rattle.spf_exec.specs.Running.{HasFewSites, IsRunner}
use Rattle.spf_exec.specs.declared.program.Body.{Body}
use Rattle.spf_exec.specs.declared.program.Moved.{Moved}
use Rattle.spf_exec.specs.declared.program.Program.{Program}
use Rattle.spf_exec.proofs.AlikeUnits.{mine_is}
use Rattle.spf_store.proofs.UnitAt.{in_range}
use Rattle.spf_exec.proofs.Behaving.{is_unit}

body_at : (tree : Tree) (moved : Moved) (from n : ℕ) (loops : List Loop) (loop : Loop) → slice_get loops n ≡ Some loop → slice_get (bodies_from tree moved from loops) n ≡ Some (body_of tree moved (from + n) loop)
body_at tree moved from n [] loop at = cc
body_at tree moved from zero (each ∷ loops) loop at =
    let same : each ≡ loop = cc in
    let number : from ≡ from + 0 = omega arith in
    λ i. Some (body_of tree moved (number i) (same i))
body_at tree moved from (suc n) (each ∷ loops) loop at =
    let number : from + 1 + n ≡ from + suc n = omega arith in
    body_at tree moved (from + 1) n loops loop at ∙ ap (λ (of : ℕ). Some (body_of tree moved of loop)) number

module _ {env executor : Environment} {tree : Tree} {shape : Shape} {touches : List (List Touch)} {moved : Moved} {program : Program} {starts : List ℕ}
    (is : IsRunner env executor tree shape touches moved program starts) (perms : All IsPerm (packings_of moved.arrays shape.arrays))
    (u : ℕ) (inside : u < (source_behavior env tree shape.steps).count) (unit : Unit) (at : slice_get (units_of shape.steps shape.loops) u ≡ Some unit) where
  abbrev pub renaming : Renaming
  renaming = renaming_of (packings_of moved.arrays shape.arrays) perms

  pub unit_is : unit_at env tree shape.steps u ≡ unit
  unit_is =
      get_or_from_slice_get (units_of shape.steps (loops_of env tree)) u unit (record { step = 0; loop_no = 0; position = 0 })
      (subst (λ (loops : List LoopShape). slice_get (units_of shape.steps loops) u ≡ Some unit) is.sourced.shape_is.loops at)

  pub its : IsUnit env tree unit
  its = subst (IsUnit env tree) unit_is (is_unit env tree shape.steps u inside)

  pub its_bound : AreBound env tree moved is.orders is.packings renaming
  its_bound = is.bound perms

  pub its_range : IsInRange env tree unit
  its_range = subst (IsInRange env tree) unit_is (in_range env tree shape.steps u inside is.sourced.range)

  pub has_position : IsOfMoved (get_or moved.loops unit.loop_no None) unit.position
  has_position = its_bound.positions unit.loop_no its.loop unit.position its.there its.inside

  its_body : slice_get program.loops unit.loop_no ≡ Some (body_of tree moved unit.loop_no its.loop)
  its_body =
      ap (λ (of : Program). slice_get of.loops unit.loop_no) is.program_is ∙ body_at tree moved 0 unit.loop_no tree.loops its.loop its.there
      ∙ (let number : 0 + unit.loop_no ≡ unit.loop_no = omega arith in ap (λ (of : ℕ). Some (body_of tree moved of its.loop)) number)

  pub has_body : unit.loop_no < length program.loops
  has_body = slice_get_within program.loops unit.loop_no (body_of tree moved unit.loop_no its.loop) its_body

  module _ (body : Body) (of : body ≡ get_or program.loops unit.loop_no body) (position : ℕ) (there : position ≡ moved_to (get_or moved.loops unit.loop_no None) unit.position) where
    body_is : body ≡ body_of tree moved unit.loop_no its.loop
    body_is = of ∙ get_or_from_slice_get program.loops unit.loop_no (body_of tree moved unit.loop_no its.loop) body its_body

    items_are : body.items ≡ executor_items tree moved unit.loop_no its.loop
    items_are = ap (λ (each : Body). each.items) body_is

    pub few : HasFewSites body.items
    few = subst (λ (each : Body). HasFewSites each.items) (sym of) (is.sites unit.loop_no body has_body)

    pub small : All (IsSmallItem (executor_env env is.orders is.packings) (pos (new_position moved unit.loop_no unit.position) ∷ [])) (executor_items tree moved unit.loop_no its.loop) →
        All (IsSmallItem executor (pos position ∷ [])) body.items
    small all =
        subst (λ (items : List Item). All (IsSmallItem executor (pos position ∷ [])) items) (sym items_are)
        (subst (λ (n : ℕ). All (IsSmallItem executor (pos n ∷ [])) (executor_items tree moved unit.loop_no its.loop)) (sym there)
        (subst (λ (of : Environment). All (IsSmallItem of (pos (new_position moved unit.loop_no unit.position) ∷ [])) (executor_items tree moved unit.loop_no its.loop)) (sym is.executor_is) all))

    abbrev events : List Event
    events = items_trace executor (pos position ∷ []) 1 body.items

    trace_is : events ≡ executor_trace env tree moved is.orders is.packings unit
    trace_is = (λ i. items_trace (is.executor_is i) (pos (there i) ∷ []) 1 (items_are i)) ∙ sym (mine_is env tree moved is.orders is.packings unit its.loop its.there)

    pub its_allowed : (owns : ℕ → Bool) → All (Allows (starts_of env tree) owns) (executor_trace env tree moved is.orders is.packings unit) → All (Allows starts owns) events
    its_allowed owns all =
        subst (All (Allows starts owns)) (sym trace_is)
        (subst (λ (of : List ℕ). All (Allows of owns) (executor_trace env tree moved is.orders is.packings unit)) (sym is.starts_are) all)

    -- what the runner makes of values, where the executor's events at the unit's new position are known to make that
    pub done : (from : List ℕ) (items : List Item) → from ≡ starts → items ≡ body.items → (values made : ℕ → ℤ) →
        ((e : ℕ) → executor_effect env tree moved is.orders is.packings (unit_at env tree shape.steps u) values e ≡ made e) →
        (e : ℕ) (value : ℤ) → value ≡ effect executor from (items_trace executor (pos position ∷ []) 1 items) values e → value ≡ made e
    done from items starts_there items_there values made law e value run =
        let first : effect executor from (items_trace executor (pos position ∷ []) 1 items) values ≡ effect executor starts events values =
        λ i. effect executor (starts_there i) (items_trace executor (pos position ∷ []) 1 (items_there i)) values in
        let second : effect executor starts events values ≡ executor_effect env tree moved is.orders is.packings unit values = λ i. effect (is.executor_is i) (is.starts_are i) (trace_is i) values in
        let third : executor_effect env tree moved is.orders is.packings unit values e ≡ made e = subst (λ (of : Unit). executor_effect env tree moved is.orders is.packings of values e ≡ made e) unit_is (law e) in
        run ∙ ap (λ (of : ℕ → ℤ). of e) (first ∙ second) ∙ third
