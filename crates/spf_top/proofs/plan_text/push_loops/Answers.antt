use Rattle.std.proofs.Common.{◌<◌, [], length, ap, arith}
use Rattle.std.specs.Prelude.{pos}
use Rattle.spf_space.specs.Places.{order_of}
use Rattle.spf_space.specs.declared.shape.LoopShape.{LoopShape}
use Rattle.spf_top.specs.Outcome.{loop_at}
use Rattle.spf_top.specs.PlanText.{loop_line}
use Rattle.spf_top.proofs.PlanTexts.{entry_of, grown}
use Rattle.spf_top.proofs.plan_text.push_loops.Goals as goal

pub loop-number-preserved : goal.loop-number-preserved
loop-number-preserved c =
    let none : LoopShape = record { name = []; lower = pos 0; extent = 0 } in
    let each = entry_of c.as_slice-loops.result.now c.args.shape.now.loops c.index-loops-number.result none c.loop-number.number c.as_slice-loops.ensures c.loop-number-test.true c.index-loops-number.is in
    let inside : c.loop-number.number < length c.as_slice-orders.result.now = omega (arith, c.loop-number-test.true, ap length c.as_slice-loops.ensures, ap length c.as_slice-orders.ensures, c.requires.each_loop) in
    let order = entry_of c.as_slice-orders.result.now c.args.places.now.orders c.index-orders-number.result [] c.loop-number.number c.as_slice-orders.ensures inside c.index-orders-number.is in
    grown (λ number. loop_line (loop_at c.args.shape.now.loops number) (order_of c.args.places.now.orders number)) c.args.text.now.items c.loop-number.text.items c.push_loop.new.text.items _ c.loop-number.number
    c.loop-number.invariant c.in_ok-push_loop.ensures (λ i. loop_line (each i) (order i))
