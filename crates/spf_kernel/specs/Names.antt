-- The declared names of a kernel, and the numbers that they get.
use Rattle.std.specs.Prelude.{ℕ, ◌≤◌, List, length}
use Rattle.std.specs.List.{position_or_len}
use Rattle.std.specs.Str.{bytes_eq}
use Rattle.spf_kernel.specs.Facts.{Fact}
use Rattle.spf_kernel.specs.Rules.{is_param, is_table, is_data, names_that}

-- the texts of the names that a use is resolved by, in the order of the text
pub record Names : Type 0 where
  pub params : List (List ℕ)
  pub tables : List (List ℕ)
  pub data_arrays : List (List ℕ)

-- at most 64 of each sort
pub record IsShort (names : Names) : Type 0 where
  pub params : length names.params ≤ 64
  pub tables : length names.tables ≤ 64
  pub data_arrays : length names.data_arrays ≤ 64

abbrev pub names_of : List Fact → Names
names_of facts = record { params = names_that is_param facts; tables = names_that is_table facts; data_arrays = names_that is_data facts }

-- the number of a name: how many stand before it
abbrev pub number_of : List (List ℕ) → List ℕ → ℕ
number_of names name = position_or_len (bytes_eq name) names
