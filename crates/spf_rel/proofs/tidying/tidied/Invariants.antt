use Rattle.std.proofs.Common.{take}
use Rattle.spf_rel.specs.Simplified.{AreDistinct}
use Rattle.spf_rel.proofs.tidying.tidied.Given as goal

abbrev pub invariant-loop-conj : goal.invariant-loop-conj
invariant-loop-conj l = AreDistinct l.outer (take l.conj-index l.conjs) l.made
