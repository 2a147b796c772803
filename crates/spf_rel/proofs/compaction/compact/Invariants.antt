use Rattle.spf_rel.proofs.Compacting.{Compacting}
use Rattle.spf_rel.proofs.compaction.compact.Given as goal

abbrev pub invariant-loop-left : goal.invariant-loop-left
invariant-loop-left l = Compacting l.outer l.left l.fn.conj l.current

abbrev pub decreases-loop-left : goal.decreases-loop-left
decreases-loop-left l = l.left
