-- The texts that the command writes.
use Rattle.std.specs.Prelude.{ℕ, ◌+◌, ℤ, pos, List, [], ◌∷◌, ◌++◌, length, map, flat_map, slice_index_or, slice_range}
use Rattle.std.specs.Fmt.{signed_decimal}
use Rattle.std.specs.List.{range_with_len}
use Rattle.spf_space.specs.declared.shape.ArrayShape.{ArrayShape}
use Rattle.spf_store.specs.Source.{source_result}
use Rattle.spf_store.specs.Stored.{Stored}
use Rattle.spf_input.specs.declared.reading.Bundle.{Bundle}

-- a line for an array: its name and its cells, each behind a space
abbrev pub array_line : List ℕ → List ℤ → List ℕ
array_line name cells = name ++ (flat_map (λ cell. 32 ∷ signed_decimal cell) cells ++ 10 ∷ [])

-- a line for each array, whose cells lie among these
abbrev pub arrays_text : List ℤ → List ArrayShape → List ℕ
arrays_text cells arrays = flat_map (λ (array : ArrayShape). array_line array.name (slice_range cells array.start (array.start + array.length))) arrays

abbrev pub cell_of : Stored → ℕ → ℤ
cell_of store element = slice_index_or store.cells element (pos 0)

-- the cells after the source loops
abbrev pub result_cells : Bundle → List ℤ
result_cells bundle = map (source_result bundle.env bundle.kernel bundle.steps (cell_of bundle.store)) (range_with_len 0 (length bundle.store.cells))

-- what `run` writes: the arrays after the source loops
abbrev pub text_of : Bundle → List ℕ
text_of bundle = arrays_text (result_cells bundle) bundle.store.arrays
