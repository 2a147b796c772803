use Rattle.spf_kernel.proofs.Common.{◌≡◌, take, names_in}
use Rattle.spf_kernel.proofs.printing.tree_names.names_of_tree.Given as goal

abbrev pub invariant-loop-decl : goal.invariant-loop-decl
invariant-loop-decl l = l.names ≡ names_in (take l.decl-index l.decl-items)
