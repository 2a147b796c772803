-- The parts of a plan's job.
use Rattle.std.specs.Prelude.{◌≡◌, ◌≢◌, ℕ, ◌<◌, ◌≤◌, true, List, length}
use Rattle.spf_core.specs.History.{is_before}
use Rattle.spf_core.specs.Tiling.{Tiling}
use Rattle.spf_layers.specs.Legality.{IsLegal}
use Rattle.spf_space.specs.Places.{Place}
use Rattle.spf_touch.specs.Conflict.{Conflict}
use Rattle.spf_touch.specs.Frame.{Behavior, IsTouched}
use Rattle.spf_touch.specs.declared.touch.Touch.{Touch}
use Rattle.spf_tiles.specs.Feet.{AreFeet}
use Rattle.spf_tiles.specs.Lists.{AreLists}

-- the order is for as many tiles, transitive, goes from lesser to greater tile, and has the tile of the lesser of two
-- conflicting units before that of the greater, where these are two tiles
pub record IsOrderFor (touches : ℕ → List Touch) (place : ℕ → Place) (count tiles : ℕ) (order : List (List ℕ)) : Type 0 where
  pub each_tile : length order ≡ tiles
  pub transitive : (a b c : ℕ) → is_before order a b ≡ true → is_before order b c ≡ true → is_before order a c ≡ true
  pub upward : (a b : ℕ) → is_before order a b ≡ true → a < b
  pub linked : (p q : ℕ) → p < q → q < count → Conflict (touches p) (touches q) → (place p).tile ≢ (place q).tile → is_before order (place p).tile (place q).tile ≡ true

-- the units touch these elements, which are cells; their places are legal, and in these tiles; and the job's lists, order and
-- feet are those of the places
pub record ArePlanParts (units : Behavior) (touches : ℕ → List Touch) (place : ℕ → Place) (tiles : ℕ) (job : Tiling) : Type 0 where
  pub few : (1 ≤ tiles) × (tiles ≤ 1024)
  pub touched : (u : ℕ) → u < units.count → units.touches u ≡ touches u
  pub cells : (u e : ℕ) → u < units.count → IsTouched (touches u) e → e < length job.cells
  pub legal : IsLegal touches place units.count
  pub inside : (u : ℕ) → u < units.count → (place u).tile < tiles
  pub lists : AreLists place units.count tiles job.lists
  pub order : IsOrderFor touches place units.count tiles job.order
  pub feet : AreFeet units.touches job.lists job.feet
