-- The source result: the effects of all units, in textual order.
use Rattle.std.specs.Prelude.{ℕ, ℤ, pos, ◌+ℤ◌, List, [], ◌∷◌, slice_get, Option, Some, None}
use Rattle.spf_term.specs.Environment.{Environment}
use Rattle.spf_kernel.specs.declared.tree.Item.{Item}
use Rattle.spf_kernel.specs.declared.tree.Loop.{Loop}
use Rattle.spf_kernel.specs.declared.tree.Tree.{Tree}
use Rattle.spf_space.specs.Units.{units_of}
use Rattle.spf_space.specs.declared.unit.Unit.{Unit}
use Rattle.spf_store.specs.Effect.{effect}
use Rattle.spf_store.specs.Event.{Event}
use Rattle.spf_store.specs.Shaped.{loops_of, outer_value, starts_of}
use Rattle.spf_store.specs.Trace.{items_trace}

module _ (env : Environment) (tree : Tree) where
  -- the iteration of a loop at this position
  abbrev pub position_iteration : Option Loop → ℕ → ℤ
  position_iteration None position = pos position
  position_iteration (Some each) position = outer_value env each.low +ℤ pos position

  abbrev pub iteration_of : Unit → ℤ
  iteration_of unit = position_iteration (slice_get tree.loops unit.loop_no) unit.position

  abbrev pub items_of : Option Loop → List Item
  items_of None = []
  items_of (Some each) = each.items

  -- the events of a unit, which are those of an iteration of its loop; they don't depend on the step
  unfoldable pub unit_trace : Unit → List Event
  unit_trace unit = items_trace env (iteration_of unit ∷ []) 1 (items_of (slice_get tree.loops unit.loop_no))

  abbrev pub unit_effect : Unit → (ℕ → ℤ) → ℕ → ℤ
  unit_effect unit = effect env (starts_of env tree) (unit_trace unit)

  abbrev pub units_effect : List Unit → (ℕ → ℤ) → ℕ → ℤ
  units_effect [] cells = cells
  units_effect (unit ∷ units) cells = units_effect units (unit_effect unit cells)

  -- the values after so many steps
  unfoldable pub source_result : ℕ → (ℕ → ℤ) → ℕ → ℤ
  source_result steps = units_effect (units_of steps (loops_of env tree))
