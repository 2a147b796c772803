use Rattle.std.proofs.Common.{take}
use Rattle.std.specs.List.{All}
use Rattle.spf_rel.proofs.Points.{Fails}
use Rattle.spf_rel.proofs.membership.meets_some.Given as goal

abbrev pub invariant-loop-conj : goal.invariant-loop-conj
invariant-loop-conj l = All (Fails l.env l.point) (take l.conj-index l.conjs)
