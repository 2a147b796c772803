use Rattle.std.proofs.Common.{sym, ◌∙◌, length-set}
use Rattle.std.proofs.lemmas.List.{at_drop_more}
use Rattle.spf_plan.specs.Packed.{marked}
use Rattle.spf_plan.proofs.packing.mark.Goals as goal

pub loop-array-preserved : goal.loop-array-preserved
loop-array-preserved c = record {
  long = rw c.set.ensures (length-set c.loop-array.marks _ _ ∙ c.loop-array.invariant.long);
  rest = rw c.set.ensures (sym (at_drop_more (λ l. marked l c.loop-array.marks) c.args.arrays.now c.loop-array.array-index 0 c.loop-array-test.true) ∙ c.loop-array.invariant.rest);
}
