use Rattle.std.proofs.Common.{◌≡◌, ◌++◌, take}
use Rattle.spf_tiles.proofs.feet.push_touches.Given as goal

abbrev pub invariant-loop-nth : goal.invariant-loop-nth
invariant-loop-nth g l = l.touches.items ≡ l.fn.touches.items ++ take l.nth ((g.U.Units.behavior l.units).touches l.unit)
