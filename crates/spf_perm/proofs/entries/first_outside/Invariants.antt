use Rattle.spf_perm.specs.Perm.{AreInside}
use Rattle.spf_perm.proofs.entries.first_outside.Given as goal

abbrev pub invariant-loop-place : goal.invariant-loop-place
invariant-loop-place l = AreInside l.list l.place
