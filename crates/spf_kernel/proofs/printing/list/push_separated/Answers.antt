use Rattle.spf_kernel.proofs.Common.{arith, common_steps}
use Rattle.spf_kernel.proofs.printing.list.push_separated.Goals as goal
use Rattle.spf_kernel.proofs.PrintEquations.{separated_more}

pub loop-n-preserved : goal.loop-n-preserved
loop-n-preserved g c =
    let e =
    separated_more c.args.parts.now c.loop-n.n c.index-parts-n.result c.loop-n-test.true c.index-parts-n.is c.args.between.now (g.T.Print.printed c.args.shown.now.names.now c.args.shown.now.vars.now) in
    grind (arith, common_steps)
