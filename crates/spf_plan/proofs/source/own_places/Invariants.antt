use Rattle.std.proofs.Common.{◌≡◌, take}
use Rattle.spf_plan.specs.Planned.{own_places}
use Rattle.spf_plan.proofs.source.own_places.Given as goal

abbrev pub invariant-loop-array : goal.invariant-loop-array
invariant-loop-array l = l.packs ≡ own_places (take l.array-index l.arrays)
