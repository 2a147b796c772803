use Rattle.std.proofs.Common.{◌≡◌, ◌++◌, drop}
use Rattle.spf_group.specs.Keys.{places_of}
use Rattle.spf_group.proofs.keys.push_places.Given as goal

abbrev pub invariant-loop-touch : goal.invariant-loop-touch
invariant-loop-touch l = l.fn.parts.items ++ places_of l.start l.now l.touches ≡ l.parts.items ++ places_of l.start l.now (drop l.touch-index l.touches)
