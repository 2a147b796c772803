-- The units of each tile in turn.
use Rattle.std.specs.Prelude.{◌≡◌, ◌↔◌, ℕ, ◌<◌, ◌==◌, true, List, [], filter, length, slice_index_or}
use Rattle.std.specs.List.{AllPairs}
use Rattle.spf_space.specs.Places.{IsBelow, Place}
use Rattle.spf_touch.specs.Ordered.{is_in}

-- there is a list for each tile; it has the units below count whose place is in the tile, in the order of their places
pub record AreLists (place : ℕ → Place) (count tiles : ℕ) (lists : List (List ℕ)) : Type 0 where
  pub each_tile : length lists ≡ tiles
  pub units : (t u : ℕ) → t < tiles → (is_in (slice_index_or lists t []) u ≡ true) ↔ ((u < count) × ((place u).tile ≡ t))
  pub rising : (t : ℕ) → AllPairs (λ (u v : ℕ). IsBelow (place u) (place v)) (slice_index_or lists t [])

-- those of the units, in turn, that are in the tile
abbrev pub dealt_to : ℕ → List ℕ → List ℕ → List ℕ
dealt_to t tiles units = filter (λ u. slice_index_or tiles u 0 == t) units
