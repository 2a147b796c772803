use Rattle.std.proofs.Common.{◌∙◌}
use Rattle.spf_touch.proofs.Members.{in_at}
use Rattle.spf_touch.proofs.Orders.{run_more}
use Rattle.spf_legal.proofs.placed.run_in_turn.Goals as goal

pub run-requires-clause-unit : goal.run-requires-clause-unit
run-requires-clause-unit g c = c.requires.units _ (in_at c.args.order.now c.loop-unit.unit-index 0 c.loop-unit-test.true)

pub run-requires-clause-own : goal.run-requires-clause-own
run-requires-clause-own g c e t = c.loop-unit.invariant.own e ∙ c.requires.own _ e (in_at c.args.order.now c.loop-unit.unit-index 0 c.loop-unit-test.true) t

pub loop-unit-preserved : goal.loop-unit-preserved
loop-unit-preserved g c = record {
  own = λ e. c.run.ensures.own e ∙ c.loop-unit.invariant.own e;
  kept = g.met.C.Cells.kept_on _ _ _ c.loop-unit.invariant.kept c.run.ensures.kept;
  rest = run_more (g.U.Units.behavior c.args.units.now) c.args.order.now c.loop-unit.unit-index 0 _ _ _ c.loop-unit-test.true c.run.ensures.effect c.loop-unit.invariant.rest;
}
