use Rattle.std.proofs.Common.{◌≤◌}
use Rattle.spf_layers.proofs.chains.groups_of.Given as goal

abbrev pub invariant-loop-node : goal.invariant-loop-node
invariant-loop-node l = l.groups ≤ l.node-index
