use Rattle.std.proofs.Common.{◌≡◌, ◌++◌, drop, map}
use Rattle.spf_seed.specs.Entries.{entry_at}
use Rattle.spf_seed.proofs.inverted.push_entries.Given as goal

abbrev pub invariant-loop-element : goal.invariant-loop-element
invariant-loop-element l = l.fn.entries.items ++ map (entry_at l.position) l.elements ≡ l.entries.items ++ map (entry_at l.position) (drop l.element-index l.elements)
