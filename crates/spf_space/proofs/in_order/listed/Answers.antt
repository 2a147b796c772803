use Rattle.std.proofs.Common.{sym, arith}
use Rattle.std.proofs.lemmas.List.FromFn.{map-range_with_len_more}
use Rattle.spf_space.specs.InOrder.{turn_of}
use Rattle.spf_space.proofs.in_order.listed.Goals as goal

pub loop-unit-preserved : goal.loop-unit-preserved
loop-unit-preserved c =
    rw (c.in_ok-push.ensures.items, c.loop-unit.invariant, c.number.ensures) (sym (map-range_with_len_more (turn_of c.args.shape.now c.args.places.now) 0 c.loop-unit.unit c.loop-unit.unit (omega arith)))
