use Rattle.std.proofs.Common.{◌≡◌, ◌++◌, drop}
use Rattle.std.specs.List.{flat_map}
use Rattle.spf_tiles.proofs.feet.touches_of.Given as goal

-- the touches so far and those of the units that are left are those of all
abbrev pub invariant-loop-unit : goal.invariant-loop-unit
invariant-loop-unit g l = l.touches.items ++ flat_map (g.U.Units.behavior l.units).touches (drop l.unit-index l.list) ≡ flat_map (g.U.Units.behavior l.units).touches l.list
