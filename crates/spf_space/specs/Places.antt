-- Where units are run: in which tile, and in which order within their loop.
use Rattle.std.specs.Prelude.{ℕ, ◌≡◌, ◌+◌, ◌*◌, ◌<◌, ◌⊎◌, List, [], length, take, slice_get, slice_index_or, Some}
use Rattle.spf_perm.specs.Perm.{at, IsPerm}
use Rattle.spf_space.specs.Layout.{iterations}
use Rattle.spf_space.specs.Units.{IsEarlier, units_of}
use Rattle.spf_space.specs.declared.shape.LoopShape.{LoopShape}
use Rattle.spf_space.specs.declared.unit.Unit.{Unit}

-- the tile, and the unit of the source order in whose turn the unit is run there
pub record Place : Type 0 where
  pub tile : ℕ
  pub turn : Unit

-- one place is below another: compared are tile, step, loop and position, from the front
abbrev pub IsBelow : Place → Place → Type 0
IsBelow p q = (p.tile < q.tile) ⊎ ((p.tile ≡ q.tile) × IsEarlier p.turn q.turn)

-- the new positions of a loop
abbrev pub order_of : List (List ℕ) → ℕ → List ℕ
order_of orders loop_no = slice_index_or orders loop_no []

-- the unit whose position is the new position of this one
abbrev pub moved : List (List ℕ) → Unit → Unit
moved orders u = record u { position = at (order_of orders u.loop_no) u.position }

-- the unit of this ordinal
unfoldable pub unit_of : ℕ → List LoopShape → ℕ → Unit
unit_of steps loops n = slice_index_or (units_of steps loops) n (record { step = 0; loop_no = 0; position = 0 })

-- the place of the unit of this ordinal
unfoldable pub place_of : ℕ → List LoopShape → List ℕ → List (List ℕ) → ℕ → Place
place_of steps loops tiles orders n = record { tile = slice_index_or tiles n 0; turn = moved orders (unit_of steps loops n) }

-- the ordinal of a unit
abbrev pub ordinal_of : List LoopShape → Unit → ℕ
ordinal_of loops u = u.step * iterations loops + iterations (take u.loop_no loops) + u.position

-- the number by which the place of the unit of this ordinal is compared
unfoldable pub number_of : ℕ → List LoopShape → List ℕ → List (List ℕ) → ℕ → ℕ
number_of steps loops tiles orders n =
    slice_index_or tiles n 0 * length (units_of steps loops) + ordinal_of loops (moved orders (unit_of steps loops n))

-- each unit has a tile, and each loop an order of its positions
pub record ArePlacesOf (steps : ℕ) (loops : List LoopShape) (tiles : List ℕ) (orders : List (List ℕ)) : Type 0 where
  pub each_unit : length tiles ≡ length (units_of steps loops)
  pub each_loop : length orders ≡ length loops
  pub extents : (n : ℕ) (loop : LoopShape) → slice_get loops n ≡ Some loop → length (order_of orders n) ≡ loop.extent
  pub perms : (n : ℕ) → n < length orders → IsPerm (order_of orders n)
