use Rattle.spf_seed.specs.Entries.{positions_in, row_of}
use Rattle.spf_touch.proofs.Listed.{rows_more}
use Rattle.spf_seed.proofs.listing.Listing.put_elements.Goals as goal

pub loop-element-preserved : goal.loop-element-preserved
loop-element-preserved c = record {
  kept = rw c.loop-element.invariant.kept.long at c.in_ok-put_element.ensures.kept;
  order = rows_more (λ e. positions_in (row_of c.args.entries.now e)) c.loop-element.self.order.items c.put_element.new.self.order.items _ c.args.elements.now c.loop-element.element-index 0
      c.loop-element-test.true c.in_ok-put_element.ensures.order c.loop-element.invariant.order;
}
