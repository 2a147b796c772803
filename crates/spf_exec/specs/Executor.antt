-- What the functions of a program are: the tables of orders and of packings, behind those of the index arrays.
use Rattle.std.specs.Prelude.{ℕ, ◌≡◌, ◌<◌, ℤ, pos, ◌+ℤ◌, Option, None, Some, List, [], ◌++◌, length, map, slice_get, slice_index_or, ⊤}
use Rattle.spf_perm.specs.Perm.{at}
use Rattle.spf_term.specs.Environment.{Environment}
use Rattle.spf_kernel.specs.Named.{counts_in}
use Rattle.spf_kernel.specs.declared.tree.Loop.{Loop}
use Rattle.spf_kernel.specs.declared.tree.Tree.{Tree}
use Rattle.spf_store.specs.Shaped.{outer_value}
use Rattle.spf_exec.specs.declared.program.Moved.{Moved}

-- where an element is after the move
abbrev pub moved_to : Option (List ℕ) → ℕ → ℕ
moved_to None from = from
moved_to (Some moves) from = at moves from

-- the element is one of those that are moved, if any are
abbrev pub IsOfMoved : Option (List ℕ) → ℕ → Type 0
IsOfMoved None from = ⊤
IsOfMoved (Some moves) from = from < length moves

-- ---- positions and places

abbrev pub new_position : Moved → ℕ → ℕ → ℕ
new_position moved loop_no position = moved_to (slice_index_or moved.loops loop_no None) position

abbrev pub HasPosition : Moved → ℕ → ℕ → Type 0
HasPosition moved loop_no position = IsOfMoved (slice_index_or moved.loops loop_no None) position

abbrev pub packed_place : Moved → ℕ → ℕ → ℕ
packed_place moved array place = moved_to (slice_index_or moved.arrays array None) place

abbrev pub HasPlace : Moved → ℕ → ℕ → Type 0
HasPlace moved array place = IsOfMoved (slice_index_or moved.arrays array None) place

-- ---- tables

-- the environment of the executor
abbrev pub executor_env : Environment → List (List ℤ) → List (List ℤ) → Environment
executor_env env orders packings = record { params = env.params; tables = env.tables ++ (orders ++ packings) }

-- by new position the iteration, which is the source position and the lower bound; nothing is said of a loop that isn't moved
abbrev pub IsOrderTable : ℤ → Option (List ℕ) → List ℤ → Type 0
IsOrderTable lower None table = ⊤
IsOrderTable lower (Some moves) table = (position : ℕ) → position < length moves → slice_index_or table (at moves position) (pos 0) ≡ lower +ℤ pos position

-- by place the packed place; nothing is said of an array that isn't packed
abbrev pub IsPackingTable : Option (List ℕ) → List ℤ → Type 0
IsPackingTable None table = ⊤
IsPackingTable (Some moves) table = table ≡ map pos moves

-- the tables of the loops' orders and of the arrays' packings
pub record AreTablesOf (tree : Tree) (moved : Moved) (env : Environment) (orders packings : List (List ℤ)) : Type 0 where
  pub index_arrays : length env.tables ≡ (counts_in tree.decls).tables
  pub loops : length orders ≡ length tree.loops
  pub order_tables : (loop_no : ℕ) (loop : Loop) → slice_get tree.loops loop_no ≡ Some loop → IsOrderTable (outer_value env loop.low) (slice_index_or moved.loops loop_no None) (slice_index_or orders loop_no [])
  pub packing_tables : (array : ℕ) → IsPackingTable (slice_index_or moved.arrays array None) (slice_index_or packings array [])
