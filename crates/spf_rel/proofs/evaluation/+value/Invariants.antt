use Rattle.spf_rel.proofs.Evaluated.{Summing}
use Rattle.spf_rel.proofs.evaluation.+value.Given as goal

abbrev pub invariant-value-loop-mono : goal.invariant-value-loop-mono
invariant-value-loop-mono l = Summing l.env l.point l.term l.mono-items l.mono-index l.sum
