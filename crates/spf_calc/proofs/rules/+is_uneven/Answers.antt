use Rattle.spf_calc.specs.Rules.{is_uneven}
use Rattle.spf_calc.proofs.Equations.{first_holds, second_decides, uneven_two}
use Rattle.spf_calc.proofs.rules.+is_uneven.Goals as goal

pub returns-then-is_uneven : goal.returns-then-is_uneven
returns-then-is_uneven t c =
    let two = c.in-Two in
    first_holds is_uneven two.operation c.args.exp.now two.first two.second two.is (uneven_two two.operation two.first two.second) _ _ c.get-in-Two.ensures c.is_uneven-in-Two.ensures c.if-is_uneven.true

pub returns-else-is_uneven : goal.returns-else-is_uneven
returns-else-is_uneven t c =
    let two = c.in-Two in
    second_decides is_uneven two.operation c.args.exp.now two.first two.second two.is (uneven_two two.operation two.first two.second) _ _ _ _ c.get-in-Two.ensures c.is_uneven-in-Two.ensures c.if-is_uneven.false c.get-else-is_uneven.ensures c.is_uneven-else-is_uneven.ensures
