-- What the executor does at a position of a loop, on packed cells.
use Rattle.std.specs.Prelude.{ℕ, ◌≡◌, ◌+◌, ◌<◌, ℤ, pos, Option, None, Some, List, [], ◌∷◌, slice_get, slice_index_or}
use Rattle.spf_term.specs.Environment.{Environment}
use Rattle.spf_touch.specs.Renaming.{Renaming}
use Rattle.spf_kernel.specs.Bounded.{IsBoundedTree}
use Rattle.spf_kernel.specs.Named.{IsNamed}
use Rattle.spf_kernel.specs.declared.tree.Item.{Item}
use Rattle.spf_kernel.specs.declared.tree.Loop.{Loop}
use Rattle.spf_kernel.specs.declared.tree.Tree.{Tree}
use Rattle.spf_space.specs.declared.shape.ArrayShape.{ArrayShape}
use Rattle.spf_space.specs.declared.unit.Unit.{Unit}
use Rattle.spf_store.specs.Accepted.{IsAccepted}
use Rattle.spf_store.specs.Effect.{effect}
use Rattle.spf_store.specs.Event.{Event}
use Rattle.spf_store.specs.Shaped.{data_of, loop_shape, starts_of}
use Rattle.spf_store.specs.Trace.{items_trace}
use Rattle.spf_exec.specs.Executor.{AreTablesOf, HasPlace, HasPosition, executor_env, new_position, packed_place}
use Rattle.spf_exec.specs.Moves.{IsMove}
use Rattle.spf_exec.specs.Rewritten.{executor_items}
use Rattle.spf_exec.specs.declared.program.Moved.{Moved}

module _ (env : Environment) (tree : Tree) (moved : Moved) (orders packings : List (List ℤ)) where
  abbrev pub items_at : ℕ → Option Loop → List Item
  items_at loop_no None = []
  items_at loop_no (Some each) = executor_items tree moved loop_no each

  -- the events at a position of a loop
  unfoldable pub position_trace : ℕ → ℕ → List Event
  position_trace loop_no position = items_trace (executor_env env orders packings) (pos position ∷ []) 1 (items_at loop_no (slice_get tree.loops loop_no))

  -- the events of a unit, at its new position
  abbrev pub executor_trace : Unit → List Event
  executor_trace unit = position_trace unit.loop_no (new_position moved unit.loop_no unit.position)

  -- what they make of packed cells
  abbrev pub executor_effect : Unit → (ℕ → ℤ) → ℕ → ℤ
  executor_effect unit = effect (executor_env env orders packings) (starts_of env tree) (executor_trace unit)

-- each place of an array goes to its packed place in this array
pub record IsPackedBy (renaming : Renaming) (moved : Moved) (array : ℕ) (shape : ArrayShape) (place : ℕ) : Type 0 where
  pub there : HasPlace moved array place
  pub inside : packed_place moved array place < shape.length
  pub goes : renaming.to (shape.start + place) ≡ shape.start + packed_place moved array place

-- a kernel and numbers that it may be given, what is moved, the tables of the moves, and where elements go
pub record AreBound (env : Environment) (tree : Tree) (moved : Moved) (orders packings : List (List ℤ)) (renaming : Renaming) : Type 0 where
  pub named : IsNamed tree
  pub bounded : IsBoundedTree tree
  pub accepted : IsAccepted env tree
  pub loops : (loop_no : ℕ) → IsMove (slice_index_or moved.loops loop_no None)
  pub arrays : (array : ℕ) → IsMove (slice_index_or moved.arrays array None)
  pub positions : (loop_no : ℕ) (loop : Loop) (position : ℕ) → slice_get tree.loops loop_no ≡ Some loop → position < (loop_shape env loop).extent → HasPosition moved loop_no position
  pub tables : AreTablesOf tree moved env orders packings
  pub packed : (array : ℕ) (shape : ArrayShape) (place : ℕ) → slice_get (data_of env tree) array ≡ Some shape → place < shape.length → IsPackedBy renaming moved array shape place

-- the unit is one of a loop of the tree
pub record IsUnit (env : Environment) (tree : Tree) (unit : Unit) : Type 0 where
  pub loop : Loop
  pub there : slice_get tree.loops unit.loop_no ≡ Some loop
  pub inside : unit.position < (loop_shape env loop).extent
