use Rattle.std.proofs.Common.{◌∙◌, arith}
use Rattle.spf_touch.proofs.Performed.{perform_more}
use Rattle.spf_touch.proofs.perform.perform_all.Goals as goal

pub loop-op-preserved : goal.loop-op-preserved
loop-op-preserved g c = record {
  own = λ e. c.perform.ensures.own e ∙ c.loop-op.invariant.own e;
  kept = g.met.C.Cells.kept_on _ _ _ c.loop-op.invariant.kept c.perform.ensures.kept;
  rest = perform_more c.args.ops.now c.loop-op.op-index _ _ _ _ (omega arith) c.perform.ensures.value c.loop-op.invariant.rest;
}
