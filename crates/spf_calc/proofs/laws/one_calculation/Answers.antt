use Rattle.spf_calc.proofs.OneResult.{one_result}
use Rattle.spf_calc.proofs.laws.one_calculation.Goals as goal

pub returns : goal.returns
returns c = one_result c.simplification_is_unique.ensures
