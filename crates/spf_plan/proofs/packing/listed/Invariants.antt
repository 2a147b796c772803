use Rattle.std.proofs.Common.{◌≡◌, drop}
use Rattle.spf_plan.specs.Packed.{is_listed}
use Rattle.spf_plan.proofs.packing.listed.Given as goal

abbrev pub invariant-loop-array : goal.invariant-loop-array
invariant-loop-array l = is_listed (drop l.array-index l.arrays) l.n ≡ is_listed l.arrays l.n
