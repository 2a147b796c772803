use Rattle.spf_calc.proofs.Equations.{kind_by}
use Rattle.spf_calc.proofs.rules.+kind_of.Goals as goal

pub returns-in-Two : goal.returns-in-Two
returns-in-Two t c =
    let two = c.in-Two in
    kind_by two.operation c.args.exp.now two.first two.second two.is c.args.bindings.now _ _ _ _ _ c.get-in-Two.ensures c.get-in-Two-2.ensures c.kind_of-in-Two.ensures c.kind_of-in-Two-2.ensures c.fitting.ensures
