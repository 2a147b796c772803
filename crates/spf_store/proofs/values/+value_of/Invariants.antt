use Rattle.std.proofs.Common.{◌≡◌, ◌+ℤ◌, ◌*ℤ◌, drop}
use Rattle.spf_base.specs.Wrap.{wrap}
use Rattle.spf_store.specs.Effect as effect
use Rattle.spf_store.specs.Products.{product, sum}
use Rattle.spf_store.proofs.values.+value_of.Given as goal

abbrev pub invariant-product_of-loop-factor : goal.invariant-product_of-loop-factor
invariant-product_of-loop-factor g l =
    wrap (l.product *ℤ product l.env l.starts l.variables (g.C.Cells.value l.cells) (drop l.factor-index l.factor-items))
    ≡ wrap (product l.env l.starts l.variables (g.C.Cells.value l.cells) l.prod.facts)

abbrev pub invariant-value_of-loop-prod : goal.invariant-value_of-loop-prod
invariant-value_of-loop-prod g l =
    wrap (l.sum +ℤ sum l.env l.starts l.variables (g.C.Cells.value l.cells) (drop l.prod-index l.prod-items))
    ≡ wrap (effect.value l.env l.starts l.variables (g.C.Cells.value l.cells) l.value)
