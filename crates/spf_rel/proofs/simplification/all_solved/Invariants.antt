use Rattle.std.proofs.Common.{◌≡◌, Ok, take}
use Rattle.spf_rel.specs.Simplified.{all_solved}
use Rattle.spf_rel.proofs.simplification.all_solved.Given as goal

abbrev pub invariant-loop-conj : goal.invariant-loop-conj
invariant-loop-conj l = all_solved l.outer (take l.conj-index l.conjs) ≡ Ok l.made
