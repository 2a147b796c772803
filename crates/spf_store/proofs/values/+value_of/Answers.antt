use Rattle.std.proofs.Common.{rules, w64, ◌∙◌, ap, sym}
use Rattle.std.proofs.lemmas.Int.{to_z-of_z}
use Rattle.spf_base.specs.Wrap.{wrap}
use Rattle.spf_kernel.specs.declared.tree.Value.{the_lemmas}
use Rattle.spf_store.specs.Effect.{fact_value}
use Rattle.spf_store.specs.Needs.{readable}
use Rattle.spf_store.proofs.Rows.{plus_all, plus_first, plus_on, prod_kept, times_all, times_first, times_on}
use Rattle.spf_store.proofs.Wrapped.{wraps_itself}
use Rattle.spf_store.proofs.values.+value_of.Goals as goal

pub factor_of-returns-in-Number : goal.factor_of-returns-in-Number
factor_of-returns-in-Number g t c =
    let same = ap (fact_value c.args.env.now c.args.starts.now c.args.variables.now (g.C.Cells.value c.args.cells.now)) (sym c.in-Number.is) in
    to_z-of_z w64 c.numeral.result (search rules) ∙ c.numeral.ensures ∙ ap wrap same

pub factor_of-returns-in-Param : goal.factor_of-returns-in-Param
factor_of-returns-in-Param g t c =
    let same = ap (fact_value c.args.env.now c.args.starts.now c.args.variables.now (g.C.Cells.value c.args.cells.now)) (sym c.in-Param.is) in
    wraps_itself c.param.result _ (search rules) (c.param.ensures ∙ same)

pub factor_of-returns-in-Var : goal.factor_of-returns-in-Var
factor_of-returns-in-Var g t c =
    let same = ap (fact_value c.args.env.now c.args.starts.now c.args.variables.now (g.C.Cells.value c.args.cells.now)) (sym c.in-Var.is) in
    wraps_itself c.variable.result _ (search rules) (c.variable.ensures ∙ same)

pub factor_of-returns-in-Index : goal.factor_of-returns-in-Index
factor_of-returns-in-Index g t c =
    let same = ap (fact_value c.args.env.now c.args.starts.now c.args.variables.now (g.C.Cells.value c.args.cells.now)) (sym c.in-Index.is) in
    wraps_itself c.entry.result _ (search rules) (c.entry.ensures ∙ same)

pub factor_of-returns-in-Cell : goal.factor_of-returns-in-Cell
factor_of-returns-in-Cell g t c =
    let same = ap (fact_value c.args.env.now c.args.starts.now c.args.variables.now (g.C.Cells.value c.args.cells.now)) (sym c.in-Cell.is) in
    wraps_itself c.get.result _ (search rules) (c.get.ensures ∙ ap (g.C.Cells.value c.args.cells.now) c.element.ensures ∙ same)

pub product_of-loop-factor-init : goal.product_of-loop-factor-init
product_of-loop-factor-init g t c =
    times_first c.args.env.now c.args.starts.now c.args.variables.now (g.C.Cells.value c.args.cells.now) c.as_slice-factor-items.ensures

pub product_of-loop-factor-preserved : goal.product_of-loop-factor-preserved
product_of-loop-factor-preserved g t c =
    times_on c.args.env.now c.args.starts.now c.args.variables.now (g.C.Cells.value c.args.cells.now)
    c.as_slice-factor-items.result.now c.loop-factor.factor-index c.factor-item.result c.loop-factor-test.true c.factor-item.is
    _ _ _ _ (to_z-of_z w64 c.factor_of-next.result (search rules) ∙ c.factor_of-next.ensures)
    (to_z-of_z w64 c.wmul-product.result (search rules) ∙ c.wmul-product.ensures.value) c.loop-factor.invariant

pub product_of-returns : goal.product_of-returns
product_of-returns g t c =
    times_all c.args.env.now c.args.starts.now c.args.variables.now (g.C.Cells.value c.args.cells.now)
    c.as_slice-factor-items.result.now c.loop-factor.factor-index _ _ c.loop-factor-test.false (search rules) c.loop-factor.invariant

pub value_of-product_of-product-requires : goal.value_of-product_of-product-requires
value_of-product_of-product-requires g t c κs within =
    let good = prod_kept (readable c.args.env.now c.args.starts.now (g.C.Cells.own c.args.cells.now) c.args.variables.now) c.args.value.now
    c.as_slice-prod-items.result.now c.loop-prod.prod-index c.prod-item.result c.as_slice-prod-items.ensures c.loop-prod-test.true c.prod-item.is c.requires.readable in
    search (rules, the_lemmas)

pub value_of-loop-prod-init : goal.value_of-loop-prod-init
value_of-loop-prod-init g t c =
    plus_first c.args.env.now c.args.starts.now c.args.variables.now (g.C.Cells.value c.args.cells.now) c.args.value.now c.as_slice-prod-items.result.now c.as_slice-prod-items.ensures

pub value_of-loop-prod-preserved : goal.value_of-loop-prod-preserved
value_of-loop-prod-preserved g t c =
    plus_on c.args.env.now c.args.starts.now c.args.variables.now (g.C.Cells.value c.args.cells.now)
    c.as_slice-prod-items.result.now c.loop-prod.prod-index c.prod-item.result c.loop-prod-test.true c.prod-item.is
    _ _ _ _ (to_z-of_z w64 c.product_of-product.result (search rules) ∙ c.product_of-product.ensures)
    (to_z-of_z w64 c.sum_with-sum.result (search rules) ∙ c.sum_with-sum.ensures) c.loop-prod.invariant

pub value_of-returns : goal.value_of-returns
value_of-returns g t c =
    plus_all c.args.env.now c.args.starts.now c.args.variables.now (g.C.Cells.value c.args.cells.now)
    c.as_slice-prod-items.result.now c.loop-prod.prod-index _ _ c.loop-prod-test.false (search rules) c.loop-prod.invariant
