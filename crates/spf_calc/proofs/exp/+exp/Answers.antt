use Rattle.std.proofs.Common.{arith}
use Rattle.spf_calc.proofs.Depths.{exp_nested}
use Rattle.spf_calc.proofs.exp.+exp.Goals as goal

pub exp-returns-else-depth-eq0 : goal.exp-returns-else-depth-eq0
exp-returns-else-depth-eq0 t c = rw (exp_nested c.args.depth c.args.tokens.now (omega (arith, c.if-depth-eq0.false))) c.nested.ensures
