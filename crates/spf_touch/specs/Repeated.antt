-- What the units of all steps touch, where those of each step touch what those of the first do.
use Rattle.std.specs.Prelude.{ℕ, ◌%◌, List, [], length, slice_index_or}
use Rattle.spf_touch.specs.declared.touch.Touch.{Touch}

-- what the unit of this ordinal touches, where these are the touches of the units of one step
abbrev pub touches_at : List (List Touch) → ℕ → List Touch
touches_at lists u = slice_index_or lists (u % length lists) []
