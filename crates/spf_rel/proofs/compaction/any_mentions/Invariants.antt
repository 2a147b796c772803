use Rattle.std.proofs.Common.{◌≡◌, false, take}
use Rattle.std.specs.List.{list_any}
use Rattle.spf_term.specs.Solution.{mentions}
use Rattle.spf_rel.proofs.compaction.any_mentions.Given as goal

abbrev pub invariant-loop-term : goal.invariant-loop-term
invariant-loop-term l = list_any (mentions l.var) (take l.term-index l.terms) ≡ false
