use Rattle.std.proofs.Common.{◌≡◌, ◌<◌, [], length, get_or, ap, arith}
use Rattle.std.specs.Prelude.{pos}
use Rattle.spf_space.specs.declared.shape.LoopShape.{LoopShape}
use Rattle.spf_top.specs.Outcome.{loop_at}
use Rattle.spf_top.specs.PlanText.{at_line, tiles_at}
use Rattle.spf_top.proofs.PlanTexts.{entry_of, grown, next_first, tiles_are, within_units}
use Rattle.spf_top.proofs.plan_text.push_step.Goals as goal

pub slice_bounds-push_at-end : goal.slice_bounds-push_at-end
slice_bounds-push_at-end c =
    let each = c.each-item.result in
    let is : each ≡ get_or c.args.shape.now.loops c.loop-each.each-index each = entry_of c.as_slice-loops.result.now c.args.shape.now.loops each each c.loop-each.each-index c.as_slice-loops.ensures c.loop-each-test.true c.each-item.is in
    let lt : c.loop-each.each-index < length c.args.shape.now.loops = omega (arith, c.loop-each-test.true, ap length c.as_slice-loops.ensures) in
    let within = within_units c.args.shape.now.steps c.args.step c.args.shape.now.loops c.args.tiles.now c.loop-each.each-index each c.requires.step c.requires.tiles lt is in
    omega (arith, within, c.loop-each.invariant.first)

pub loop-each-preserved : goal.loop-each-preserved
loop-each-preserved c =
    let each = c.each-item.result in
    let loops = c.args.shape.now.loops in
    let is : each ≡ get_or loops c.loop-each.each-index each = entry_of c.as_slice-loops.result.now loops each each c.loop-each.each-index c.as_slice-loops.ensures c.loop-each-test.true c.each-item.is in
    let lt : c.loop-each.each-index < length loops = omega (arith, c.loop-each-test.true, ap length c.as_slice-loops.ensures) in
    let none : LoopShape = record { name = []; lower = pos 0; extent = 0 } in
    let loop = entry_of c.as_slice-loops.result.now loops each none c.loop-each.each-index c.as_slice-loops.ensures c.loop-each-test.true c.each-item.is in
    let tiles = tiles_are c.args.step loops c.args.tiles.now c.loop-each.each-index c.loop-each.first each lt is c.loop-each.invariant.first in
    record {
      first = next_first c.args.step loops c.loop-each.each-index c.loop-each.first each lt is c.loop-each.invariant.first;
      text = grown (λ number. at_line c.args.step (loop_at loops number) (tiles_at loops c.args.tiles.now c.args.step number)) c.args.text.now.items c.loop-each.text.items c.push_at.new.text.items _ c.loop-each.each-index
          c.loop-each.invariant.text c.in_ok-push_at.ensures (λ i. at_line c.args.step (loop i) (tiles i));
    }
