-- The nine rules of scripts: each is a test of a step where it stands in its script.
use Rattle.std.specs.Prelude.{ℕ, ◌+◌, ◌==◌, nat_le, nat_lt, Bool, true, false, not, ◌&&◌, if◌then◌else◌, List, [], ◌∷◌, take, drop, slice_get, count_by, Option}
use Rattle.std.specs.List.{list_all, list_any, position_from}
use Rattle.std.specs.Option.{option_and_then}
use Rattle.std.specs.Str.{bytes_eq}
use Rattle.spf_space.specs.declared.shape.ArrayShape.{ArrayShape}
use Rattle.spf_space.specs.declared.shape.LoopShape.{LoopShape}
use Rattle.spf_space.specs.declared.shape.Shape.{Shape}
use Rattle.spf_script.specs.declared.step.TextSeed.TheVariants.{Plug}
use Rattle.spf_script.specs.declared.step.TextStep.{TextStep}
use Rattle.spf_script.specs.declared.step.TextStep.TheVariants.{Cpack, LexGroup, LexSort, Bucket, Tile, TilePack}

-- ---- names

abbrev pub is_loop : List LoopShape → List ℕ → Bool
is_loop loops name = list_any (λ (each : LoopShape). bytes_eq each.name name) loops

abbrev pub is_array : List ArrayShape → List ℕ → Bool
is_array arrays name = list_any (λ (array : ArrayShape). bytes_eq array.name name) arrays

-- how many cells the first array of this name has
abbrev pub length_of : List ArrayShape → List ℕ → ℕ
length_of [] name = 0
length_of (array ∷ arrays) name = if bytes_eq array.name name then array.length else length_of arrays name

-- the names in places of data arrays
abbrev pub array_names : TextStep → List (List ℕ)
array_names (Cpack arrays by) = arrays
array_names (LexGroup of by) = by ∷ []
array_names (LexSort of by) = by ∷ []
array_names (Bucket of by size) = by ∷ []
array_names (Tile of at seed parts) = []
array_names (TilePack arrays) = arrays

-- the names in places of loops
abbrev pub loop_names : TextStep → List (List ℕ)
loop_names (Cpack arrays by) = by ∷ []
loop_names (LexGroup of by) = of ∷ []
loop_names (LexSort of by) = of ∷ []
loop_names (Bucket of by size) = of ∷ []
loop_names (Tile of at seed parts) = of ∷ []
loop_names (TilePack arrays) = []

-- ---- the rules

abbrev pub is_tile : TextStep → Bool
is_tile (Tile of at seed parts) = true
is_tile _ = false

abbrev pub is_tilepack : TextStep → Bool
is_tilepack (TilePack arrays) = true
is_tilepack _ = false

-- 1: a 33rd step or a later one; places count from 0
abbrev pub is_surplus : ℕ → Bool
is_surplus place = nat_le 32 place

module _ (shape : Shape) where
  -- 2: a name in a loop's place that isn't one of a loop, or one in an array's place that isn't one of a data array
  abbrev pub is_misnamed : TextStep → Bool
  is_misnamed step = not (list_all (is_loop shape.loops) (loop_names step) && list_all (is_array shape.arrays) (array_names step))

  -- 3: an array that stands twice in the list
  abbrev pub is_repeating : TextStep → Bool
  is_repeating step = list_any (λ (array : ArrayShape). nat_lt 1 (count_by (bytes_eq array.name) (array_names step))) shape.arrays

-- an array that isn't as long as the first one of the list
abbrev pub differ : List ArrayShape → List (List ℕ) → Bool
differ arrays [] = false
differ arrays (first ∷ names) = list_any (λ name. not (length_of arrays name == length_of arrays first)) names

module _ (shape : Shape) where
  -- 4: arrays of unequal lengths in one list
  abbrev pub is_uneven : TextStep → Bool
  is_uneven step = differ shape.arrays (array_names step)

-- 5: a bucket size or a number of parts that is 0
abbrev pub is_empty : TextStep → Bool
is_empty (Bucket of by size) = size == 0
is_empty (Tile of at seed parts) = parts == 0
is_empty _ = false

module _ (shape : Shape) where
  -- 6: a step number that isn't below the number of steps
  abbrev pub is_late : TextStep → Bool
  is_late (Tile of at seed parts) = nat_le shape.steps at
  is_late _ = false

-- 7: a step other than a `tilepack` behind a `tile`
abbrev pub is_behind_tile : List TextStep → ℕ → TextStep → Bool
is_behind_tile script place step = not (is_tilepack step) && list_any is_tile (take place script)

-- 8: a `tilepack` before any `tile` of the script
abbrev pub is_before_tile : List TextStep → ℕ → TextStep → Bool
is_before_tile script place step = is_tilepack step && list_any is_tile (drop (place + 1) script)

-- 9: the number of a partitioner that isn't handed in
abbrev pub is_foreign : ℕ → TextStep → Bool
is_foreign plugs (Tile of at (Plug number) parts) = nat_le plugs number
is_foreign plugs _ = false

-- ---- all of them

module _ (shape : Shape) (plugs : ℕ) (script : List TextStep) where
  -- the rules from 1 on, of a step at this place
  abbrev pub broken_rules : ℕ → TextStep → List Bool
  broken_rules place step =
      is_surplus place ∷ is_misnamed shape step ∷ is_repeating shape step ∷ is_uneven shape step ∷ is_empty step ∷ is_late shape step
      ∷ is_behind_tile script place step ∷ is_before_tile script place step ∷ is_foreign plugs step ∷ []

  -- the least rule that is broken by the step at this place
  abbrev pub least_rule : ℕ → Option ℕ
  least_rule place = option_and_then (λ step. position_from (λ broken. broken) 1 (broken_rules place step)) (slice_get script place)
