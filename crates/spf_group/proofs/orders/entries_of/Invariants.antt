use Rattle.std.proofs.Common.{◌≡◌, take}
use Rattle.spf_group.proofs.orders.entries_of.Given as goal

abbrev pub invariant-loop-old : goal.invariant-loop-old
invariant-loop-old l = l.entries.items ≡ take l.old l.perm
