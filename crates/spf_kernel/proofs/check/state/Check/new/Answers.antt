use Rattle.spf_kernel.proofs.Common.{[], texts}
use Rattle.spf_kernel.proofs.check.state.Check.new.Goals as goal
use Rattle.spf_kernel.proofs.Taking.{begun}

pub invariant_of-result : goal.invariant_of-result
invariant_of-result c = ([], begun (texts c.args.tokens.now) c.new.result c.new.ensures)

pub returns-clause-behind : goal.returns-clause-behind
returns-clause-behind c = begun (texts c.args.tokens.now) c.new.result c.new.ensures
