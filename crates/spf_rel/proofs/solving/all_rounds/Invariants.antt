use Rattle.std.proofs.Common.{◌-◌, length}
use Rattle.spf_rel.proofs.Rounds.{Going}
use Rattle.spf_rel.proofs.solving.all_rounds.Given as goal

abbrev pub invariant-loop-turn : goal.invariant-loop-turn
invariant-loop-turn l = Going l.outer (l.turns - l._turn) (length l.fn.conj.equal) l.fn.conj l.current
