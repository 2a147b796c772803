use Rattle.spf_kernel.proofs.read.raw_kernel.one_kernel_stands.Goals as goal
use Rattle.spf_kernel.proofs.OneKernel.{one_kernel, no_syntax_fault}

pub returns-clause-one : goal.returns-clause-one
returns-clause-one c = one_kernel

pub returns-clause-no_fault : goal.returns-clause-no_fault
returns-clause-no_fault c = no_syntax_fault
