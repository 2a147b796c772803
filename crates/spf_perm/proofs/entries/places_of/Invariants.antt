use Rattle.std.proofs.Common.{◌≡◌, length}
use Rattle.spf_perm.proofs.Bijections.{AreMoved}
use Rattle.spf_perm.proofs.entries.places_of.Given as goal

abbrev pub invariant-loop-place : goal.invariant-loop-place
invariant-loop-place l = (length l.places.items ≡ length l.list) × AreMoved l.list (λ e. e) 0 l.places.items l.place
