use Rattle.std.proofs.Common.{arith}
use Rattle.std.proofs.lemmas.Grind.{common_steps}
use Rattle.spf_reltext.proofs.PrintEquations.{variables_next}
use Rattle.spf_reltext.proofs.print_parts.push_variables.Goals as goal

pub loop-n-preserved : goal.loop-n-preserved
loop-n-preserved c =
    let e = variables_next c.args.opening.now c.args.letter.now c.loop-n.n c.args.count c.loop-n-test.true in
    grind (arith, common_steps)
