-- Where an array begins, and how many iterations a loop has.
use Rattle.std.proofs.Common.{◌≡◌, ℕ, slice_get, List, Some, refl}
use Rattle.spf_space.specs.declared.shape.ArrayShape.{ArrayShape}
use Rattle.spf_space.specs.declared.shape.LoopShape.{LoopShape}
use Rattle.spf_group.specs.Keys.{extent_of, start_of}

pub extent_read : (loops : List LoopShape) (of : ℕ) (each : LoopShape) → slice_get loops of ≡ Some each → extent_of loops of ≡ each.extent
extent_read loops of each there = rw there refl

pub start_read : (arrays : List ArrayShape) (by : ℕ) (array : ArrayShape) → slice_get arrays by ≡ Some array → array.start ≡ start_of arrays by
start_read arrays by array there = rw there refl
