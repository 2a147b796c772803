-- The units in the order of their places.
use Rattle.std.specs.Prelude.{ℕ, List, length, map}
use Rattle.std.specs.List.{AllPairs, range_with_len}
use Rattle.std.specs.List.Sorted.{IsNonDecreasingBy, IsPermutation}
use Rattle.spf_space.specs.Places.{ArePlacesOf, IsBelow, number_of, place_of}
use Rattle.spf_space.specs.Units.{units_of}
use Rattle.spf_space.specs.declared.in_order.Turn.{Turn}
use Rattle.spf_space.specs.declared.places.Places.{Places}
use Rattle.spf_space.specs.declared.shape.Shape.{Shape}

-- how many units there are
abbrev pub units_in : Shape → ℕ
units_in shape = length (units_of shape.steps shape.loops)

-- these are the places of the units
abbrev pub ArePlacesIn : Shape → Places → Type 0
ArePlacesIn shape places = ArePlacesOf shape.steps shape.loops places.tiles places.orders

-- the place of one unit is below that of another
abbrev pub ComesBefore : Shape → Places → ℕ → ℕ → Type 0
ComesBefore shape places u v = IsBelow (place_of shape.steps shape.loops places.tiles places.orders u) (place_of shape.steps shape.loops places.tiles places.orders v)

-- each unit stands in the list once, and its place is below those of all units behind it
pub record AreInOrder (shape : Shape) (places : Places) (units : List ℕ) : Type 0 where
  pub each : IsPermutation (range_with_len 0 (units_in shape)) units
  pub order : AllPairs (ComesBefore shape places) units

-- the unit with the number of its place
abbrev pub turn_of : Shape → Places → ℕ → Turn
turn_of shape places u = record { number = number_of shape.steps shape.loops places.tiles places.orders u; unit = u }

-- each unit has one turn, and the numbers don't fall
pub record AreTurns (shape : Shape) (places : Places) (turns : List Turn) : Type 0 where
  pub each : IsPermutation (map (turn_of shape places) (range_with_len 0 (units_in shape))) turns
  pub rising : IsNonDecreasingBy (λ (turn : Turn). turn.number) turns
