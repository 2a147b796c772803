use Rattle.std.proofs.Common.{◌≡◌, map, take}
use Rattle.spf_perm.specs.Perm.{at}
use Rattle.spf_perm.proofs.entries.entries_of.Given as goal

abbrev pub invariant-loop-entry : goal.invariant-loop-entry
invariant-loop-entry l = l.entries.items ≡ map (at l.after) (take l.entry-index l.list)
