use Rattle.std.proofs.Common.{◌≡◌, [], drop, take}
use Rattle.spf_rel.specs.Simplified.{choice}
use Rattle.spf_rel.proofs.elimination.choose.Given as goal

abbrev pub invariant-loop-place : goal.invariant-loop-place
invariant-loop-place l = choice l.low l.high (take l.place l.terms) (drop l.place l.terms) ≡ choice l.low l.high [] l.terms
