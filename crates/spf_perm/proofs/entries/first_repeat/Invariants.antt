use Rattle.spf_perm.proofs.Markers.{AreSeen}
use Rattle.spf_perm.proofs.entries.first_repeat.Given as goal

abbrev pub invariant-loop-place : goal.invariant-loop-place
invariant-loop-place l = AreSeen l.list l.place l.markers.items
