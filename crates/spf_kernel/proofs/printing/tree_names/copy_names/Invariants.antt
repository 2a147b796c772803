use Rattle.spf_kernel.proofs.Common.{◌≡◌, ◌++◌, take}
use Rattle.spf_kernel.proofs.printing.tree_names.copy_names.Given as goal

abbrev pub invariant-loop-name : goal.invariant-loop-name
invariant-loop-name l = l.names ≡ l.fn.names ++ take l.name-index l.more
