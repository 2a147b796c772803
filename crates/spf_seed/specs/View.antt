-- What a seed may look at.
use Rattle.std.specs.Prelude.{◌≡◌, ◌≢◌, ℕ, ◌+◌, ◌-◌, ◌≤◌, ◌<◌, ◌^◌, true, List, length, slice_index}
use Rattle.std.specs.List.{slice_range}
use Rattle.std.specs.List.Sorted.{IsNonDecreasing}
use Rattle.spf_touch.specs.Ordered.{is_in}
use Rattle.spf_seed.specs.declared.view.SeedView.{SeedView}

abbrev pub positions : SeedView → ℕ
positions view = length view.starts - 1

-- the elements that are touched at a position
abbrev pub touched : SeedView → ℕ → List ℕ
touched view j = slice_range view.elements (slice_index view.starts j) (slice_index view.starts (j + 1))

-- there is a part, and the lists of the positions lie one behind the other
pub record IsView (view : SeedView) : Type 0 where
  pub some : 1 ≤ view.parts
  pub begun : 1 ≤ length view.starts
  pub first : slice_index view.starts 0 ≡ 0
  pub rising : IsNonDecreasing view.starts
  pub last : slice_index view.starts (positions view) ≡ length view.elements
  pub few_positions : positions view < 2 ^ 32
  pub few_elements : length view.elements < 2 ^ 32

-- the positions differ, and some element is touched by both
pub record AreNeighbours (view : SeedView) (i j : ℕ) : Type 0 where
  pub apart : i ≢ j
  pub shared : (e : ℕ) × (is_in (touched view i) e ≡ true) × (is_in (touched view j) e ≡ true)
