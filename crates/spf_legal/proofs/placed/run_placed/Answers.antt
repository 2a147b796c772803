use Rattle.std.proofs.Common.{ap, ◌∙◌, arith}
use Rattle.spf_space.proofs.InOrder.{stands}
use Rattle.spf_space.specs.InOrder.{AreInOrder}
use Rattle.spf_touch.specs.Repeated.{touches_at}
use Rattle.spf_legal.proofs.Ordered.{in_turn}
use Rattle.spf_legal.proofs.placed.run_placed.Goals as goal

pub run_in_turn-requires-clause-units : goal.run_in_turn-requires-clause-units
run_in_turn-requires-clause-units g c =
    rw c.as_slice.ensures.value (λ u there. omega (arith, c.requires.count, (stands c.args.shape.now c.args.places.now c.in_ok-order.order.items c.in_ok-order.ensures u).0 there))

pub run_in_turn-requires-clause-own : goal.run_in_turn-requires-clause-own
run_in_turn-requires-clause-own g c =
    rw c.as_slice.ensures.value (λ u e there touch.
    let inside = (stands c.args.shape.now c.args.places.now c.in_ok-order.order.items c.in_ok-order.ensures u).0 there in
    c.requires.own u e inside (rw (c.requires.touches u inside) at touch))

pub returns-clause-value : goal.returns-clause-value
returns-clause-value g c e =
    let order : AreInOrder c.args.shape.now c.args.places.now c.as_slice.result.now = rw c.as_slice.ensures.value c.in_ok-order.ensures in
    c.run_in_turn.ensures.value e ∙
    ap (λ f. f e) (in_turn c.args.shape.now c.args.places.now c.as_slice.result.now order (g.U.Units.behavior c.args.units.now) (g.met.U.Units.framed c.args.units.now) c.requires.count (touches_at c.args.touches.now) c.requires.touches c.requires.legal _)
