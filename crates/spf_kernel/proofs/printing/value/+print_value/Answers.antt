use Rattle.spf_kernel.proofs.Common.{arith, codes, common_steps, Prod, fact_words, prod_words}
use Rattle.spf_kernel.proofs.printing.value.+print_value.Goals as goal
use Rattle.spf_kernel.proofs.PrintEquations.{separated_more, signed_more, value_words_are}

pub push_prod-loop-n-preserved : goal.push_prod-loop-n-preserved
push_prod-loop-n-preserved t c =
    let e = separated_more c.as_slice-fact-items.result.now c.loop-n.n c.fact-item.result c.loop-n-test.true c.fact-item.is (codes "*") (fact_words c.args.shown.now.names.now c.args.shown.now.vars.now) in
    grind (arith, common_steps)

pub push_value-loop-n-preserved : goal.push_value-loop-n-preserved
push_value-loop-n-preserved t c =
    let e = signed_more c.as_slice-prod-items.result.now c.loop-n.n c.prod-item.result c.loop-n-test.true c.prod-item.is (λ (prod : Prod). prod.minus) (prod_words c.args.shown.now.names.now c.args.shown.now.vars.now) in
    grind (arith, common_steps)

pub push_value-returns : goal.push_value-returns
push_value-returns t c =
    let e = value_words_are c.args.shown.now.names.now c.args.shown.now.vars.now c.args.value.now in
    grind (arith, common_steps)
