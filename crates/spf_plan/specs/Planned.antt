-- Plans: where units are run, how arrays are packed, and what was moved from its source place.
use Rattle.std.specs.Prelude.{ℕ, ◌≡◌, ◌≤◌, ◌<◌, nat_eq, Bool, true, false, List, [], All, length, map, replicate, slice_get, slice_index_or, slice_set, Some}
use Rattle.std.specs.List.{position_or_len, range_with_len}
use Rattle.spf_perm.specs.Perm.{at, IsPerm}
use Rattle.spf_touch.specs.Repeated.{touches_at}
use Rattle.spf_touch.specs.declared.touch.Touch.{Touch}
use Rattle.spf_space.specs.InOrder.{units_in}
use Rattle.spf_space.specs.Places.{ArePlacesOf, place_of}
use Rattle.spf_space.specs.declared.shape.ArrayShape.{ArrayShape}
use Rattle.spf_space.specs.declared.shape.LoopShape.{LoopShape}
use Rattle.spf_space.specs.declared.shape.Shape.{Shape}
use Rattle.spf_layers.specs.Legality.{IsLegal}

-- the tile of each unit by its ordinal, the new position of each source position of each loop, the packed place of each place
-- of each array, the number of tiles, and which loops and arrays were moved
pub record Planned : Type 0 where
  pub tiles : List ℕ
  pub orders : List (List ℕ)
  pub packs : List (List ℕ)
  pub count : ℕ
  pub moved_loops : List Bool
  pub moved_arrays : List Bool

-- the packed place of each place of an array
abbrev pub pack_of : Planned → ℕ → List ℕ
pack_of plan array = slice_index_or plan.packs array []

-- the source position that stands at a position of a loop's order
abbrev pub iteration_at : List ℕ → ℕ → ℕ
iteration_at order position = position_or_len (nat_eq position) order

-- the parts of a loop's source positions, where the list has those of the positions of its order
abbrev pub by_iteration : List ℕ → List ℕ → List ℕ
by_iteration order list = map (at list) order

-- each array has a packing of its places
pub record ArePacksOf (arrays : List ArrayShape) (packs : List (List ℕ)) : Type 0 where
  pub each_array : length packs ≡ length arrays
  pub lengths : (n : ℕ) (array : ArrayShape) → slice_get arrays n ≡ Some array → length (slice_index_or packs n []) ≡ array.length
  pub perms : (n : ℕ) → n < length packs → IsPerm (slice_index_or packs n [])

-- each stays in its own place
abbrev pub IsInPlace : List ℕ → Type 0
IsInPlace perm = perm ≡ range_with_len 0 (length perm)

-- those that aren't marked as moved stay in their own places
abbrev pub OthersInPlace : List Bool → List (List ℕ) → Type 0
OthersInPlace moved perms = (n : ℕ) → slice_index_or moved n true ≡ false → IsInPlace (slice_index_or perms n [])

module _ (touches : List (List Touch)) (shape : Shape) where
  -- run in these tiles and orders, conflicting units keep their order
  abbrev pub AreLegal : List ℕ → List (List ℕ) → Type 0
  AreLegal tiles orders = IsLegal (touches_at touches) (place_of shape.steps shape.loops tiles orders) (units_in shape)

  -- what each plan for these touches and this shape keeps
  pub record IsPlanOf (plan : Planned) : Type 0 where
    pub places : ArePlacesOf shape.steps shape.loops plan.tiles plan.orders
    pub legal : AreLegal plan.tiles plan.orders
    pub below : All (λ tile. tile < plan.count) plan.tiles
    pub some : 1 ≤ plan.count
    pub few : plan.count ≤ 1024
    pub packed : ArePacksOf shape.arrays plan.packs
    pub each_loop : length plan.moved_loops ≡ length shape.loops
    pub each_array : length plan.moved_arrays ≡ length shape.arrays
    pub loops_in_place : OthersInPlace plan.moved_loops plan.orders
    pub arrays_in_place : OthersInPlace plan.moved_arrays plan.packs

-- the positions of each loop in the source's order
abbrev pub source_orders : List LoopShape → List (List ℕ)
source_orders loops = map (λ (each : LoopShape). range_with_len 0 each.extent) loops

-- each array in its own places
abbrev pub own_places : List ArrayShape → List (List ℕ)
own_places arrays = map (λ (array : ArrayShape). range_with_len 0 array.length) arrays

-- the source order in one tile, each array in its own places
abbrev pub source_plan : Shape → Planned
source_plan shape = record {
  tiles = replicate (units_in shape) 0;
  orders = source_orders shape.loops;
  packs = own_places shape.arrays;
  count = 1;
  moved_loops = replicate (length shape.loops) false;
  moved_arrays = replicate (length shape.arrays) false;
}

-- the plan with this order of a loop, which is marked as moved
abbrev pub reordered : ℕ → List ℕ → Planned → Planned
reordered of order plan = record plan { orders = slice_set plan.orders of order; moved_loops = slice_set plan.moved_loops of true }

-- the plan with these tiles, so many
abbrev pub tiled : List ℕ → ℕ → Planned → Planned
tiled tiles parts plan = record plan { tiles = tiles; count = parts }
