-- The units of a shape in textual order, which their numbers follow.
use Rattle.std.specs.Prelude.{ℕ, ◌≡◌, ◌+◌, ◌<◌, ◌⊎◌, List, [], ◌∷◌, ◌++◌, map, flat_map, slice_get, Some}
use Rattle.std.specs.List.{range_with_len}
use Rattle.spf_space.specs.declared.shape.LoopShape.{LoopShape}
use Rattle.spf_space.specs.declared.unit.Unit.{Unit}

-- the units of one step of these loops, of which the first has this number
abbrev pub loops_units : ℕ → ℕ → List LoopShape → List Unit
loops_units step number [] = []
loops_units step number (each ∷ loops) =
    map (λ position. record { step = step; loop_no = number; position = position }) (range_with_len 0 each.extent) ++ loops_units step (number + 1) loops

-- all units in textual order: by step, then by loop, then by position
unfoldable pub units_of : ℕ → List LoopShape → List Unit
units_of steps loops = flat_map (λ step. loops_units step 0 loops) (range_with_len 0 steps)

-- the unit is one of a shape with these steps and loops
pub record IsUnitOf (steps : ℕ) (loops : List LoopShape) (unit : Unit) : Type 0 where
  pub step : unit.step < steps
  pub loop : LoopShape
  pub there : slice_get loops unit.loop_no ≡ Some loop
  pub position : unit.position < loop.extent

-- one unit stands before another in textual order
abbrev pub IsEarlier : Unit → Unit → Type 0
IsEarlier u v =
    (u.step < v.step) ⊎ ((u.step ≡ v.step) × ((u.loop_no < v.loop_no) ⊎ ((u.loop_no ≡ v.loop_no) × (u.position < v.position))))
