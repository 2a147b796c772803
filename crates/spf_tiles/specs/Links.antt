-- Links between tiles.
use Rattle.std.specs.Prelude.{◌≡◌, ℕ, ◌+◌, ◌<◌, ◌⊎◌, true, List, length, slice_index_or}
use Rattle.spf_touch.specs.Ordered.{is_in}
use Rattle.spf_touch.specs.declared.touch.Touch.{Touch}
use Rattle.spf_space.specs.Places.{place_of}
use Rattle.spf_space.specs.Units.{units_of}
use Rattle.spf_space.specs.declared.places.Places.{Places}
use Rattle.spf_space.specs.declared.shape.Shape.{Shape}
use Rattle.spf_layers.specs.Fits.{Fits}
use Rattle.spf_layers.specs.Groups.{Group, group_at, element_groups}
use Rattle.spf_layers.specs.Legality.{IsLegal}
use Rattle.spf_tiles.specs.TileSets.{Has}

-- the places are legal for touches that the layers fit
pub record AreLegalFor (layers : List (List Group)) (shape : Shape) (places : Places) : Type 0 where
  pub touches : ℕ → List Touch
  pub fits : Fits touches (length (units_of shape.steps shape.loops)) layers
  pub legal : IsLegal touches (place_of shape.steps shape.loops places.tiles places.orders) (length (units_of shape.steps shape.loops))

-- some of these units is of tile c
abbrev pub HaveTile : List ℕ → List ℕ → ℕ → Type 0
HaveTile tiles us c = (u : ℕ) × (is_in us u ≡ true) × (slice_index_or tiles u 0 ≡ c)

-- tile c has units in the first list, and tile d in the second
pub record AreLinked (tiles before after : List ℕ) (c d : ℕ) : Type 0 where
  pub here : HaveTile tiles before c
  pub there : HaveTile tiles after d

-- tile c has units in the group before the group of this number
abbrev pub HaveLast : List ℕ → List Group → ℕ → ℕ → Type 0
HaveLast tiles groups end c = (n : ℕ) × (n + 1 ≡ end) × HaveTile tiles (group_at groups n).units c

-- the tiles have units in neighbouring groups, of which the second one is before the group of this number
abbrev pub NeighboursLink : List ℕ → List Group → ℕ → ℕ → ℕ → Type 0
NeighboursLink tiles groups end c d = (n : ℕ) × (n + 1 < end) × AreLinked tiles (group_at groups n).units (group_at groups (n + 1)).units c d

-- the tiles have units in neighbouring groups of an element before this one
abbrev pub LayersLink : List ℕ → List (List Group) → ℕ → ℕ → ℕ → Type 0
LayersLink tiles layers end c d = (e : ℕ) × (e < end) × NeighboursLink tiles (element_groups layers e) (length (element_groups layers e)) c d

-- all units of the groups are below count
abbrev pub AreWithin : ℕ → List Group → Type 0
AreWithin count groups = (n u : ℕ) → is_in (group_at groups n).units u ≡ true → u < count

-- a link from a lesser tile to a greater one, where row d of the links has the tiles that are linked to tile d
abbrev pub Rises : List ℕ → ℕ → ℕ → Type 0
Rises links c d = (c < d) × (d < 1024) × Has links c d

-- tile m is linked to tile b, and tile a is that one or before it
abbrev pub IsFollowed : List ℕ → List ℕ → ℕ → ℕ → ℕ → Type 0
IsFollowed links before b a m = Has links m b × ((a ≡ m) ⊎ Has before a m)

-- some tile below this one is linked to tile b, and tile a is that one or before it
abbrev pub IsReached : List ℕ → List ℕ → ℕ → ℕ → ℕ → Type 0
IsReached links before b end a = (m : ℕ) × (m < end) × IsFollowed links before b a m
