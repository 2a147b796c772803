use Rattle.spf_calc.specs.Rules.{misses}
use Rattle.spf_calc.proofs.Equations.{first_holds, second_decides, misses_two}
use Rattle.spf_calc.proofs.rules.+misses.Goals as goal

pub returns-then-misses : goal.returns-then-misses
returns-then-misses t c =
    let two = c.in-Two in
    first_holds (misses c.args.bindings.now) two.operation c.args.exp.now two.first two.second two.is (misses_two two.operation two.first two.second c.args.bindings.now) _ _ c.get-in-Two.ensures c.misses-in-Two.ensures c.if-misses.true

pub returns-else-misses : goal.returns-else-misses
returns-else-misses t c =
    let two = c.in-Two in
    second_decides (misses c.args.bindings.now) two.operation c.args.exp.now two.first two.second two.is (misses_two two.operation two.first two.second c.args.bindings.now) _ _ _ _ c.get-in-Two.ensures c.misses-in-Two.ensures c.if-misses.false c.get-else-misses.ensures c.misses-else-misses.ensures
