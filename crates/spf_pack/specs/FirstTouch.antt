-- The order in which places of arrays are first touched.
use Rattle.std.specs.Prelude.{ℕ, ◌-◌, ◌&&◌, nat_eq, nat_le, nat_lt, List, [], ◌∷◌, ◌++◌, length, map, filter_map, slice_get, Option, Some, None, if◌then◌else◌}
use Rattle.std.specs.List.{position_or_len, range_with_len}
use Rattle.spf_perm.specs.Perm.{AreInverse}
use Rattle.spf_space.specs.declared.shape.ArrayShape.{ArrayShape}
use Rattle.spf_touch.specs.Listed.{all_listed}
use Rattle.spf_touch.specs.declared.touch.Touch.{Touch}

-- each number of a list once, where it stands first
abbrev pub once : List ℕ → List ℕ
once xs = all_listed [] xs

-- the place of an element, if it is one of the array
abbrev pub place_in : Option ArrayShape → ℕ → Option ℕ
place_in None element = None
place_in (Some array) element = if nat_le array.start element && nat_lt (element - array.start) array.length then Some (element - array.start) else None

-- the place, or where there is none the other one
abbrev pub or_else : Option ℕ → Option ℕ → Option ℕ
or_else None other = other
or_else (Some place) other = Some place

-- the place of an element in the first of these arrays, given by their numbers, that has it
abbrev pub member_place : List ArrayShape → List ℕ → ℕ → Option ℕ
member_place arrays [] element = None
member_place arrays (member ∷ members) element = or_else (place_in (slice_get arrays member) element) (member_place arrays members element)

-- the places at which these touches touch some of the arrays, in the order of the touches
abbrev pub touched_places : List ArrayShape → List ℕ → List Touch → List ℕ
touched_places arrays members touches = filter_map (λ (t : Touch). member_place arrays members t.element) touches

-- the elements of a permutation by where they go
abbrev pub in_turn : List ℕ → List ℕ
in_turn perm = map (λ position. position_or_len (nat_eq position) perm) (range_with_len 0 (length perm))

-- the touched places, each where it is touched first, and then the other places by their present packing
abbrev pub first_touch_order : List ℕ → List ℕ → List ℕ
first_touch_order touched now = once (touched ++ in_turn now)

-- the packing gives each place its position in that order
abbrev pub IsFirstTouchPacking : List ℕ → List ℕ → List ℕ → Type 0
IsFirstTouchPacking touched now packing = AreInverse (first_touch_order touched now) packing
