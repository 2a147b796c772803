use Rattle.std.proofs.Common.{◌<◌, ◌∙◌, length, arith}
use Rattle.spf_touch.proofs.Members.{in_at}
use Rattle.spf_touch.proofs.Orders.{run_more}
use Rattle.spf_core.proofs.work.run_list.Goals as goal

pub run-requires-clause-unit : goal.run-requires-clause-unit
run-requires-clause-unit g c = let inside : c.loop-unit.unit-index < length c.args.list.now = omega arith in c.requires.units _ (in_at c.args.list.now c.loop-unit.unit-index 0 inside)

pub run-requires-clause-own : goal.run-requires-clause-own
run-requires-clause-own g c e t =
    let inside : c.loop-unit.unit-index < length c.args.list.now = omega arith in
    c.loop-unit.invariant.own e ∙ c.requires.own _ e (in_at c.args.list.now c.loop-unit.unit-index 0 inside) t

pub loop-unit-preserved : goal.loop-unit-preserved
loop-unit-preserved g c = record {
  own = λ e. c.run.ensures.own e ∙ c.loop-unit.invariant.own e;
  kept = g.met.C.Cells.kept_on _ _ _ c.loop-unit.invariant.kept c.run.ensures.kept;
  rest = run_more (g.U.Units.behavior c.args.units.now) c.args.list.now c.loop-unit.unit-index 0 _ _ _ (omega arith) c.run.ensures.effect c.loop-unit.invariant.rest;
}
