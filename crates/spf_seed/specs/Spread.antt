-- Parts that are ranges of a breadth-first order of the positions.
use Rattle.std.specs.Prelude.{◌≡◌, ℕ, ◌<◌, ◌/◌, List, length, slice_index}
use Rattle.std.specs.Int.{div_ceil}
use Rattle.spf_seed.specs.BreadthFirst.{IsBreadthFirst}
use Rattle.spf_seed.specs.View.{AreNeighbours, positions}
use Rattle.spf_seed.specs.declared.view.SeedView.{SeedView}

-- how many positions a part takes
abbrev pub per_part : SeedView → ℕ
per_part view = div_ceil (positions view) view.parts

-- the position that stands at place r of the breadth-first order has the part of that place
pub record IsSpread (view : SeedView) (list : List ℕ) : Type 0 where
  pub order : List ℕ
  pub breadth_first : IsBreadthFirst (AreNeighbours view) (positions view) order
  pub long : length list ≡ positions view
  pub each : (r : ℕ) → r < positions view → slice_index list (slice_index order r) ≡ r / per_part view
