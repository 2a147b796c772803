-- Units in tiles.
use Rattle.std.specs.Prelude.{ℕ, ℤ, List, [], flat_map, slice_index_or, Option}
use Rattle.spf_touch.specs.Copy.{class_of}
use Rattle.spf_touch.specs.Frame.{Behavior}
use Rattle.spf_touch.specs.declared.class.Class.{Class}
use Rattle.spf_touch.specs.declared.touch.Touch.{Touch}

-- for each tile its units in turn, the tiles before it and what it touches; and the cells to begin with
pub record Tiling : Type 0 where
  pub lists : List (List ℕ)
  pub order : List (List ℕ)
  pub feet : List (List Touch)
  pub cells : List ℤ

-- the units of the tile
abbrev pub list_of : Tiling → ℕ → List ℕ
list_of job t = slice_index_or job.lists t []

-- what the tile touches
abbrev pub foot_of : Tiling → ℕ → List Touch
foot_of job t = slice_index_or job.feet t []

-- the units of these tiles, one tile after another
abbrev pub units_of : Tiling → List ℕ → List ℕ
units_of job tiles = flat_map (list_of job) tiles

-- how the tile touches the element: as all its units that touch it do, where they have one class other than Write, and else as Write
abbrev pub tile_class : Behavior → Tiling → ℕ → ℕ → Option Class
tile_class units job t e = class_of units.touches (list_of job t) e
