-- Values as sums and products of lists.
use Rattle.std.specs.Prelude.{ℕ, ℤ, pos, ◌+ℤ◌, ◌*ℤ◌, List, [], ◌∷◌}
use Rattle.spf_term.specs.Environment.{Environment}
use Rattle.spf_kernel.specs.declared.tree.Factor.{Factor}
use Rattle.spf_kernel.specs.declared.tree.Prod.{Prod}
use Rattle.spf_store.specs.Effect.{fact_value, signed}

module _ (env : Environment) (starts : List ℕ) (variables : List ℤ) (cells : ℕ → ℤ) where
  -- the product of the factors
  abbrev pub product : List Factor → ℤ
  product [] = pos 1
  product (factor ∷ factors) = fact_value env starts variables cells factor *ℤ product factors

  -- the sum of the products, each with its sign
  abbrev pub sum : List Prod → ℤ
  sum [] = pos 0
  sum (prod ∷ prods) = signed prod.minus (product prod.facts) +ℤ sum prods
