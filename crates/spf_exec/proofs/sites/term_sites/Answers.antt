use Rattle.std.proofs.Common.{arith}
use Rattle.spf_exec.proofs.Counts.{few_applications}
use Rattle.spf_exec.proofs.sites.term_sites.Goals as goal

pub returns : goal.returns
returns c = let few = few_applications c.args.term.now in omega (arith, few, c.monomials.ensures)
