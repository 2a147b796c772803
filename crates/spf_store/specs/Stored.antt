-- Cells and the arrays that they are of.
use Rattle.std.specs.Prelude.{ℕ, ◌≡◌, ◌+◌, ◌<◌, ◌^◌, ℤ, List, length, slice_get, Some}
use Rattle.spf_space.specs.Layout.{AreAdjacent, cells_in}
use Rattle.spf_space.specs.declared.shape.ArrayShape.{ArrayShape}

pub record Stored : Type 0 where
  pub cells : List ℤ
  pub arrays : List ArrayShape

-- the arrays lie one behind the other, and fill the cells
pub record IsStored (stored : Stored) : Type 0 where
  pub adjacent : AreAdjacent 0 stored.arrays
  pub filled : cells_in stored.arrays ≡ length stored.cells
  pub cells : length stored.cells < 2 ^ 32
  pub arrays : length stored.arrays < 2 ^ 32

-- the array has this place
pub record HasPlace (arrays : List ArrayShape) (array place : ℕ) : Type 0 where
  pub shape : ArrayShape
  pub there : slice_get arrays array ≡ Some shape
  pub inside : place < shape.length

-- the element is this place of this array
pub record IsAt (arrays : List ArrayShape) (array place element : ℕ) : Type 0 where
  pub shape : ArrayShape
  pub there : slice_get arrays array ≡ Some shape
  pub inside : place < shape.length
  pub lies : element ≡ shape.start + place
