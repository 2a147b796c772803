use Rattle.std.proofs.Common.{◌≡◌, false, take}
use Rattle.std.specs.List.{list_any}
use Rattle.spf_rel.specs.Simplified.{same_conj}
use Rattle.spf_rel.proofs.tidying.any_same.Given as goal

abbrev pub invariant-loop-other : goal.invariant-loop-other
invariant-loop-other l = list_any (same_conj l.conj) (take l.other-index l.conjs) ≡ false
