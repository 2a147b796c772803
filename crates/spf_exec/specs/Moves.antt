-- Moves of loops and of arrays, and what they make: packings and tables.
use Rattle.std.specs.Prelude.{ℕ, ◌≡◌, ◌+◌, ◌<◌, ℤ, pos, neg_ℤ, ◌≤ℤ◌, Option, None, Some, List, [], ◌∷◌, length, map, slice_index_or, ⊤}
use Rattle.std.specs.List.{range_with_len}
use Rattle.spf_perm.specs.Perm.{IsPerm}
use Rattle.spf_term.specs.Environment.{Environment}
use Rattle.spf_space.specs.Layout.{limit}
use Rattle.spf_space.specs.declared.shape.ArrayShape.{ArrayShape}
use Rattle.spf_space.specs.declared.shape.LoopShape.{LoopShape}
use Rattle.spf_exec.specs.Executor.{IsOrderTable, executor_env}
use Rattle.spf_exec.specs.declared.program.Moved.{Moved}

-- what is moved is a permutation
abbrev pub IsMove : Option (List ℕ) → Type 0
IsMove None = ⊤
IsMove (Some moves) = IsPerm moves

-- what is moved is a permutation of so many elements
abbrev pub IsMoveOf : ℕ → Option (List ℕ) → Type 0
IsMoveOf count None = ⊤
IsMoveOf count (Some moves) = (length moves ≡ count) × IsPerm moves

-- each of these, which have so many elements, is moved or isn't
pub record AreMovesOf (counts : List ℕ) (moves : List (Option (List ℕ))) : Type 0 where
  pub as_many : length moves ≡ length counts
  pub each : (n : ℕ) → n < length counts → IsMoveOf (slice_index_or counts n 0) (slice_index_or moves n None)

abbrev pub extents : List LoopShape → List ℕ
extents loops = map (λ (each : LoopShape). each.extent) loops

abbrev pub lengths : List ArrayShape → List ℕ
lengths arrays = map (λ (array : ArrayShape). array.length) arrays

-- ---- packings

-- the packing of an array of this length: its move, or each place in its own
abbrev pub packing_by : Option (List ℕ) → ℕ → List ℕ
packing_by None count = range_with_len 0 count
packing_by (Some moves) count = moves

-- the packings of these arrays, of which the first has this number
abbrev pub packings_from : List (Option (List ℕ)) → ℕ → List ArrayShape → List (List ℕ)
packings_from moves number [] = []
packings_from moves number (array ∷ arrays) = packing_by (slice_index_or moves number None) array.length ∷ packings_from moves (number + 1) arrays

-- the packings of all arrays
abbrev pub packings_of : List (Option (List ℕ)) → List ArrayShape → List (List ℕ)
packings_of moves arrays = packings_from moves 0 arrays

-- ---- tables

-- the lower bound is within the limit
abbrev pub IsLower : ℤ → Type 0
IsLower lower = (neg_ℤ (pos limit) ≤ℤ lower) × (lower ≤ℤ pos limit)

-- for each loop the table of its order
pub record AreOrderTables (loops : List LoopShape) (moves : List (Option (List ℕ))) (tables : List (List ℤ)) : Type 0 where
  pub each_loop : length tables ≡ length loops
  pub each : (n : ℕ) (d : LoopShape) → n < length loops → IsOrderTable (slice_index_or loops n d).lower (slice_index_or moves n None) (slice_index_or tables n [])

-- the table of an array's packing, and an empty one where it isn't packed
abbrev pub packing_table : Option (List ℕ) → List ℤ
packing_table None = []
packing_table (Some moves) = map pos moves

-- the environment is that of the executor, with the tables of the loops' orders and of the arrays' packings
pub record IsExecutorEnv (env : Environment) (loops : List LoopShape) (moved : Moved) (executor : Environment) : Type 0 where
  pub orders : List (List ℤ)
  pub order_tables : AreOrderTables loops moved.loops orders
  pub executor_is : executor ≡ executor_env env orders (map packing_table moved.arrays)
