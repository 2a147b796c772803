use Rattle.std.proofs.Common.{◌≡◌, drop}
use Rattle.spf_group.specs.Keys.{places_of}
use Rattle.spf_group.proofs.keys.first_place.Given as goal

abbrev pub invariant-loop-touch : goal.invariant-loop-touch
invariant-loop-touch l = places_of l.start l.now l.touches ≡ places_of l.start l.now (drop l.touch-index l.touches)
