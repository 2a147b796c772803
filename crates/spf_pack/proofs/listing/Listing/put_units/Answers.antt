use Rattle.std.proofs.Common.{◌∙◌}
use Rattle.spf_touch.specs.Repeated.{touches_at}
use Rattle.spf_pack.specs.FirstTouch.{touched_places}
use Rattle.spf_touch.proofs.Listed.{rows_more}
use Rattle.spf_pack.proofs.listing.Listing.put_units.Goals as goal

pub put_touches-requires-clause-members : goal.put_touches-requires-clause-members
put_touches-requires-clause-members c = rw c.loop-unit.invariant.still c.requires.members

pub loop-unit-preserved : goal.loop-unit-preserved
loop-unit-preserved c = record {
  kept = c.in_ok-put_touches.ensures.kept;
  still = c.in_ok-put_touches.ensures.still ∙ c.loop-unit.invariant.still;
  order = rows_more (λ u. touched_places c.args.arrays.now c.args.members.now (touches_at c.args.touches.now u)) c.loop-unit.self.order.items c.put_touches.new.self.order.items _ c.args.units.now c.loop-unit.unit-index 0
      c.loop-unit-test.true (rw c.touches_of.ensures at c.in_ok-put_touches.ensures.order) c.loop-unit.invariant.order;
}
