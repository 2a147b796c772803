-- The keys of a loop's positions: which places of an array its iterations touch.
use Rattle.std.specs.Prelude.{ℕ, ◌≡◌, ◌+◌, ◌-◌, ◌/◌, ◌<◌, ◌≤◌, List, [], map, take, filter_map, length, slice_get, slice_index_or, Option, Some, None, unwrap_or, option_map, nat_lt, nat_le, ◌&&◌, if◌then◌else◌}
use Rattle.spf_perm.specs.Perm.{at}
use Rattle.spf_space.specs.Layout.{iterations}
use Rattle.spf_space.specs.declared.shape.ArrayShape.{ArrayShape}
use Rattle.spf_space.specs.declared.shape.LoopShape.{LoopShape}
use Rattle.spf_space.specs.declared.shape.Shape.{Shape}
use Rattle.spf_touch.specs.declared.touch.Touch.{Touch}
use Rattle.spf_group.specs.declared.key.Key.{Key}
use Rattle.spf_group.specs.declared.key.Key.TheVariants.{First, All, Bucket}

-- the current packed place of an element, if it is one of the array that begins here
abbrev pub place_in : ℕ → List ℕ → ℕ → Option ℕ
place_in start now element = if nat_le start element && nat_lt (element - start) (length now) then Some (at now (element - start)) else None

-- the current packed places of the touches of the array, in the order of the touch list
abbrev pub places_of : ℕ → List ℕ → List Touch → List ℕ
places_of start now touches = filter_map (λ (t : Touch). place_in start now t.element) touches

-- the three keys: the first place, all places, and the first place divided by the size of a bucket
abbrev pub group_key : List ℕ → List ℕ
group_key places = take 1 places

abbrev pub sort_key : List ℕ → List ℕ
sort_key places = places

abbrev pub bucket_key : ℕ → List ℕ → List ℕ
bucket_key size places = map (λ place. place / size) (take 1 places)

abbrev pub key_of : Key → List ℕ → List ℕ
key_of First places = group_key places
key_of All places = sort_key places
key_of (Bucket size) places = bucket_key size places

-- a bucket has a size
abbrev pub IsSized : Key → Type 0
IsSized First = Unit {0}
IsSized All = Unit {0}
IsSized (Bucket size) = 1 ≤ size

abbrev pub start_of : List ArrayShape → ℕ → ℕ
start_of arrays by = unwrap_or (option_map (λ (array : ArrayShape). array.start) (slice_get arrays by)) 0

abbrev pub length_of : List ArrayShape → ℕ → ℕ
length_of arrays by = unwrap_or (option_map (λ (array : ArrayShape). array.length) (slice_get arrays by)) 0

abbrev pub extent_of : List LoopShape → ℕ → ℕ
extent_of loops of = unwrap_or (option_map (λ (each : LoopShape). each.extent) (slice_get loops of)) 0

-- the current packed places of an array that the iteration at a position of a loop touches
abbrev pub places_at : List (List Touch) → Shape → ℕ → ℕ → List ℕ → ℕ → List ℕ
places_at touches shape of by now position = places_of (start_of shape.arrays by) now (slice_index_or touches (iterations (take of shape.loops) + position) [])

-- what an order of a loop by an array speaks of is there, and of one size
pub record CanOrder (touches : List (List Touch)) (shape : Shape) (of by : ℕ) (order now : List ℕ) : Type 0 where
  pub loop_there : of < length shape.loops
  pub array_there : by < length shape.arrays
  pub touch_lists : length touches ≡ iterations shape.loops
  pub positions : length order ≡ extent_of shape.loops of
  pub cells : length now ≡ length_of shape.arrays by
