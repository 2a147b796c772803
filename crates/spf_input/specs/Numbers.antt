-- What the given numbers are to a kernel.
use Rattle.std.specs.Prelude.{ℕ, ℤ, pos, List, [], ◌∷◌, map, flat_map}
use Rattle.spf_term.specs.Environment.{Environment}
use Rattle.spf_term.specs.declared.term.Term.{Term}
use Rattle.spf_kernel.specs.TreeNames.{names_in}
use Rattle.spf_kernel.specs.declared.tree.Tree.{Tree}
use Rattle.spf_store.specs.Shaped.{outer_value, size}
use Rattle.spf_input.specs.Given.{Given, numbers_of}

-- the value of a parameter, which is given one number
abbrev pub only : List ℤ → ℤ
only [] = pos 0
only (number ∷ others) = number

module _ (tree : Tree) (given : List Given) where
  abbrev pub param_values : List ℤ
  param_values = map (λ name. only (numbers_of given name)) (names_in tree.decls).params

  abbrev pub table_values : List (List ℤ)
  table_values = map (numbers_of given) (names_in tree.decls).tables

  -- the numbers of all data arrays, one array behind the other
  abbrev pub cells_of : List ℤ
  cells_of = flat_map (numbers_of given) (names_in tree.decls).arrays

  abbrev pub env_of : Environment
  env_of = record { params = param_values; tables = table_values }

  -- the parameters alone, which is all that sizes, ranges, `steps` and outer bounds read
  abbrev pub outer_env : Environment
  outer_env = record { params = param_values; tables = [] }

  abbrev pub outer : Term → ℤ
  outer = outer_value outer_env

  abbrev pub steps_of : ℕ
  steps_of = size outer_env tree.steps
