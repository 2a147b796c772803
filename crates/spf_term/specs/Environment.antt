-- Where terms are evaluated.
use Rattle.std.specs.Prelude.{ℤ, List}

-- the values of the parameters and the entries of the tables, each by its number
pub record Environment : Type 0 where
  pub params : List ℤ
  pub tables : List (List ℤ)
