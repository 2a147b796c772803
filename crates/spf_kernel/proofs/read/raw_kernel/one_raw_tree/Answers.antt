use Rattle.spf_kernel.proofs.read.raw_kernel.one_raw_tree.Goals as goal
use Rattle.spf_kernel.proofs.OneKernel.{one_tree}

pub returns : goal.returns
returns c = one_tree
