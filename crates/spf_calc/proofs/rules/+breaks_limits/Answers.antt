use Rattle.spf_calc.specs.Rules.{breaks_limits}
use Rattle.spf_calc.proofs.Equations.{first_holds, second_decides, limits_two}
use Rattle.spf_calc.proofs.rules.+breaks_limits.Goals as goal

pub returns-then-branch : goal.returns-then-branch
returns-then-branch t c =
    let two = c.in-Two in
    first_holds breaks_limits two.operation c.args.exp.now two.first two.second two.is (limits_two two.operation two.first two.second) _ _ c.get-in-Two.ensures c.in_ok-breaks_limits-in-Two.ensures c.if-branch.true

pub returns-in_ok-breaks_limits-in-Two-2 : goal.returns-in_ok-breaks_limits-in-Two-2
returns-in_ok-breaks_limits-in-Two-2 t c =
    let two = c.in-Two in
    second_decides breaks_limits two.operation c.args.exp.now two.first two.second two.is (limits_two two.operation two.first two.second) _ _ _ _ c.get-in-Two.ensures c.in_ok-breaks_limits-in-Two.ensures c.if-branch.false c.get-else-branch.ensures c.in_ok-breaks_limits-in-Two-2.ensures
