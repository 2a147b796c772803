-- The names that declarations give to numbers.
use Rattle.std.specs.Prelude.{ℕ, List, [], ◌∷◌, map, flat_map, slice_get}
use Rattle.std.specs.Option.{unwrap_or}
use Rattle.spf_kernel.specs.Types.{TreeNames, Decl, DataDecl}

abbrev pub params_of : Decl → List (List ℕ)
params_of (Decl.Params names) = names
params_of _ = []

abbrev pub tables_of : Decl → List (List ℕ)
tables_of (Decl.Index name size low high trend) = name ∷ []
tables_of _ = []

abbrev pub arrays_of : Decl → List (List ℕ)
arrays_of (Decl.Values arrays) = map (λ (array : DataDecl). array.name) arrays
arrays_of _ = []

-- the names of each kind, in the order of the text
abbrev pub names_in : List Decl → TreeNames
names_in decls = record { params = flat_map params_of decls; tables = flat_map tables_of decls; arrays = flat_map arrays_of decls }

-- the name of a number, and no byte where there is none
abbrev pub name_at : List (List ℕ) → ℕ → List ℕ
name_at names number = unwrap_or (slice_get names number) []
