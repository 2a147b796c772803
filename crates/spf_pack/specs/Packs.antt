-- The packings of arrays by one loop, and by the tiles.
use Rattle.std.specs.Prelude.{ℕ, ◌≡◌, ◌+◌, ◌<◌, List, [], All, flat_map, length, map, slice_get, slice_index_or, take, Some}
use Rattle.spf_perm.specs.Perm.{at}
use Rattle.spf_space.specs.Layout.{iterations}
use Rattle.spf_space.specs.declared.places.Places.{Places}
use Rattle.spf_space.specs.declared.shape.ArrayShape.{ArrayShape}
use Rattle.spf_space.specs.declared.shape.LoopShape.{LoopShape}
use Rattle.spf_space.specs.declared.shape.Shape.{Shape}
use Rattle.spf_touch.specs.Repeated.{touches_at}
use Rattle.spf_touch.specs.declared.touch.Touch.{Touch}
use Rattle.spf_pack.specs.FirstTouch.{IsFirstTouchPacking, in_turn, touched_places}
use Rattle.spf_space.specs.InOrder.{AreInOrder, ArePlacesIn}

-- the places of the arrays that these units touch, one unit after another
abbrev pub touched_by : List (List Touch) → List ArrayShape → List ℕ → List ℕ → List ℕ
touched_by touches arrays members units = flat_map (λ u. touched_places arrays members (touches_at touches u)) units

-- the units of a loop in the first step, in its current order
abbrev pub loop_units : List LoopShape → ℕ → List ℕ → List ℕ
loop_units loops by order = map (λ iteration. iterations (take by loops) + iteration) (in_turn order)

-- the present packing of the first array
abbrev pub first_packing : List ℕ → List (List ℕ) → List ℕ
first_packing members now = slice_index_or now (at members 0) []

-- the packing of the first array by the touches of a loop
abbrev pub IsCpacking : List (List Touch) → Shape → ℕ → List ℕ → List ℕ → List (List ℕ) → List ℕ → Type 0
IsCpacking touches shape by order members now packing =
    IsFirstTouchPacking (touched_by touches shape.arrays members (loop_units shape.loops by order)) (first_packing members now) packing

-- the packing of the first array by the touches of all units in the order of their places
pub record IsTilepacking (touches : List (List Touch)) (shape : Shape) (places : Places) (members : List ℕ) (now : List (List ℕ)) (packing : List ℕ) : Type 0 where
  pub units : List ℕ
  pub ordered : AreInOrder shape places units
  pub first : IsFirstTouchPacking (touched_by touches shape.arrays members units) (first_packing members now) packing

-- the number is that of an array of this length
abbrev pub IsArrayOf : List ArrayShape → ℕ → ℕ → Type 0
IsArrayOf arrays count member = (array : ArrayShape) × (slice_get arrays member ≡ Some array) × (array.length ≡ count)

-- there is a first array, its packing is there, and all arrays are as long as it
pub record CanPack (touches : List (List Touch)) (shape : Shape) (members : List ℕ) (now : List (List ℕ)) : Type 0 where
  pub touch_lists : length touches ≡ iterations shape.loops
  pub some : 0 < length members
  pub packed : at members 0 < length now
  pub alike : All (IsArrayOf shape.arrays (length (first_packing members now))) members

-- moreover the loop is there, and the order is one of its positions
pub record CanCpack (touches : List (List Touch)) (shape : Shape) (by : ℕ) (order members : List ℕ) (now : List (List ℕ)) : Type 0 where
  pub arrays : CanPack touches shape members now
  pub loop_there : by < length shape.loops
  pub positions : (each : LoopShape) → slice_get shape.loops by ≡ Some each → length order ≡ each.extent

-- moreover these are the places of the units
pub record CanTilepack (touches : List (List Touch)) (shape : Shape) (places : Places) (members : List ℕ) (now : List (List ℕ)) : Type 0 where
  pub arrays : CanPack touches shape members now
  pub placed : ArePlacesIn shape places
