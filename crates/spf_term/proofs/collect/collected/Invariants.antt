use Rattle.std.proofs.Common.{vec_len}
use Rattle.spf_term.proofs.Gathering.{Gathering}
use Rattle.spf_term.proofs.collect.collected.Given as goal

abbrev pub invariant-loop-mono : goal.invariant-loop-mono
invariant-loop-mono l = Gathering l.fn.monos.items l.monos.items l.made.items

abbrev pub decreases-loop-mono : goal.decreases-loop-mono
decreases-loop-mono l = vec_len l.monos
