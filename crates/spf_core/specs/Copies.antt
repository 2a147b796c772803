-- Copies as contracts see them.
use Rattle.std.specs.Prelude.{◌≡◌, ℕ, ℤ, List, Option, None, length, slice_index_or}
use Rattle.spf_core.specs.Tiling.{Tiling}

-- the value that the copy has of the element, if it is one of the copy's
abbrev pub value_in : List (Option ℤ) → ℕ → Option ℤ
value_in copied e = slice_index_or copied e None

-- the copy has room for each tile of the job
abbrev pub HasRoom : Tiling → List (Option ℤ) → Type 0
HasRoom job copied = length copied ≡ length job.cells
