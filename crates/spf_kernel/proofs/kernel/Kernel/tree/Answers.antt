use Rattle.spf_kernel.proofs.Named.{parsed_is_named}
use Rattle.spf_kernel.proofs.kernel.Kernel.tree.Goals as goal

pub returns-clause-parsed : goal.returns-clause-parsed
returns-clause-parsed c = c.self.invariant.0

pub returns-clause-named : goal.returns-clause-named
returns-clause-named c = parsed_is_named _ c.self.invariant.0

pub returns-clause-bounded : goal.returns-clause-bounded
returns-clause-bounded c = c.self.invariant.1
