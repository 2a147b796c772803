use Rattle.std.proofs.Common.{length}
use Rattle.spf_term.proofs.Turning.{Turning}
use Rattle.spf_term.proofs.opposites.opposite_monos.Given as goal

abbrev pub invariant-loop-mono : goal.invariant-loop-mono
invariant-loop-mono l = Turning l.fn.monos l.monos l.turned.items

abbrev pub decreases-loop-mono : goal.decreases-loop-mono
decreases-loop-mono l = length l.monos
