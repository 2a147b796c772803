use Rattle.std.proofs.Common.{◌≡◌, drop, length}
use Rattle.spf_plan.specs.Packed.{marked}
use Rattle.spf_plan.proofs.packing.mark.Given as goal

abbrev pub invariant-loop-array : goal.invariant-loop-array
invariant-loop-array l = record {
  long : length l.marks ≡ length l.fn.marks;
  rest : marked (drop l.array-index l.arrays) l.marks ≡ marked l.arrays l.fn.marks;
}
