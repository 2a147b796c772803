use Rattle.std.proofs.Common.{vec_len}
use Rattle.spf_rel.proofs.Sorting.{Sorting}
use Rattle.spf_rel.proofs.ordering.ordered.Given as goal

abbrev pub invariant-loop-term : goal.invariant-loop-term
invariant-loop-term l = Sorting l.terms l.left.items l.made.items

abbrev pub decreases-loop-term : goal.decreases-loop-term
decreases-loop-term l = vec_len l.left
