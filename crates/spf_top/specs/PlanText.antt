-- The text of a plan.
use Rattle.std.specs.Prelude.{◌≡◌, ◌↔◌, ℕ, ◌+◌, ◌<◌, pos, ◌+ℤ◌, true, List, [], ◌∷◌, ◌++◌, All, codes, decimal, flat_map, length, slice_index_or, slice_range}
use Rattle.std.specs.Fmt.{signed_decimal}
use Rattle.std.specs.List.{AllPairs, range_with_len}
use Rattle.spf_core.specs.History.{is_before}
use Rattle.spf_plan.specs.Planned.{Planned, iteration_at, pack_of}
use Rattle.spf_space.specs.Places.{order_of, ordinal_of}
use Rattle.spf_space.specs.declared.shape.ArrayShape.{ArrayShape}
use Rattle.spf_space.specs.declared.shape.LoopShape.{LoopShape}
use Rattle.spf_space.specs.declared.shape.Shape.{Shape}
use Rattle.spf_tiles.specs.Before.{Before}
use Rattle.spf_touch.specs.Repeated.{touches_at}
use Rattle.spf_touch.specs.declared.touch.Touch.{Touch}
use Rattle.spf_top.specs.Outcome.{loop_at}

-- numbers, each behind a space
abbrev pub spaced : List ℕ → List ℕ
spaced numbers = flat_map (λ number. 32 ∷ decimal number) numbers

-- ---- lines

-- the iterations of a loop by new position
abbrev pub loop_line : LoopShape → List ℕ → List ℕ
loop_line loop order =
    codes "loop " ++ (loop.name ++ (flat_map (λ position. 32 ∷ signed_decimal (loop.lower +ℤ pos (iteration_at order position))) (range_with_len 0 loop.extent) ++ 10 ∷ []))

-- the packed place of each place of an array
abbrev pub data_line : ArrayShape → List ℕ → List ℕ
data_line array pack = codes "data " ++ (array.name ++ (spaced pack ++ 10 ∷ []))

-- how many tiles there are
abbrev pub tiles_line : ℕ → List ℕ
tiles_line count = codes "tiles " ++ (decimal count ++ 10 ∷ [])

-- the tiles of a loop's iterations at a step, in source order
abbrev pub at_line : ℕ → LoopShape → List ℕ → List ℕ
at_line step loop tiles = codes "at " ++ (decimal step ++ (32 ∷ (loop.name ++ (spaced tiles ++ 10 ∷ []))))

-- the tiles that are before a tile
abbrev pub before_line : ℕ → List ℕ → List ℕ
before_line tile before = codes "before " ++ (decimal tile ++ (spaced before ++ 10 ∷ []))

-- ---- the text

-- the array with this number, and one without a name where there is none
abbrev pub array_at : List ArrayShape → ℕ → ArrayShape
array_at arrays number = slice_index_or arrays number (record { name = []; start = 0; length = 0 })

-- the tiles of the units of this loop at this step, where the tiles of all units are these
abbrev pub tiles_at : List LoopShape → List ℕ → ℕ → ℕ → List ℕ
tiles_at loops tiles step number =
    let first = ordinal_of loops (record { step = step; loop_no = number; position = 0 }) in
    slice_range tiles first (first + (loop_at loops number).extent)

-- a line for each loop
abbrev pub loop_lines : List LoopShape → List (List ℕ) → List ℕ
loop_lines loops orders = flat_map (λ number. loop_line (loop_at loops number) (order_of orders number)) (range_with_len 0 (length loops))

-- a line for each array
abbrev pub data_lines : List ArrayShape → Planned → List ℕ
data_lines arrays plan = flat_map (λ number. data_line (array_at arrays number) (pack_of plan number)) (range_with_len 0 (length arrays))

-- a line for each loop at a step
abbrev pub step_lines : List LoopShape → List ℕ → ℕ → List ℕ
step_lines loops tiles step = flat_map (λ number. at_line step (loop_at loops number) (tiles_at loops tiles step number)) (range_with_len 0 (length loops))

-- a line for each tile
abbrev pub order_lines : List (List ℕ) → List ℕ
order_lines order = flat_map (λ tile. before_line tile (slice_index_or order tile [])) (range_with_len 0 (length order))

-- the text of a plan of this shape, where the order has for each tile those before it
abbrev pub plan_text : Shape → Planned → List (List ℕ) → List ℕ
plan_text shape plan order =
    loop_lines shape.loops plan.orders
    ++ (data_lines shape.arrays plan
    ++ (tiles_line plan.count
    ++ (flat_map (step_lines shape.loops plan.tiles) (range_with_len 0 shape.steps)
    ++ order_lines order)))

-- the order has for each tile, in ascending order, those before it
pub record IsOrderOf (touches : ℕ → List Touch) (tiles : List ℕ) (count : ℕ) (order : List (List ℕ)) : Type 0 where
  pub each_tile : length order ≡ count
  pub ascending : All (AllPairs (λ (a b : ℕ). a < b)) order
  pub before : (a b : ℕ) → (is_before order a b ≡ true) ↔ Before touches tiles a b

-- what `plan` writes for a plan of units that touch these elements
abbrev pub IsPlanText : List (List Touch) → Shape → Planned → List ℕ → Type 0
IsPlanText touches shape plan text = (order : List (List ℕ)) × IsOrderOf (touches_at touches) plan.tiles plan.count order × (text ≡ plan_text shape plan order)
