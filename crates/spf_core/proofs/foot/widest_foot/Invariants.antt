use Rattle.std.proofs.Common.{◌≡◌, drop, map, max, vec_items}
use Rattle.spf_core.specs.Stand.{widest_of}
use Rattle.spf_core.proofs.foot.widest_foot.Given as goal

-- the greatest so far and the greatest of the rest give the greatest of all
abbrev pub invariant-loop-foot : goal.invariant-loop-foot
invariant-loop-foot l = max l.widest (widest_of (map vec_items (drop l.foot-index l.feet))) ≡ widest_of (map vec_items l.feet)
