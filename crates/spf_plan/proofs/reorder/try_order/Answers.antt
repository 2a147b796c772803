use Rattle.std.proofs.Common.{ℕ, List, slice_set, ap, ◌∙◌}
use Rattle.spf_plan.proofs.Copies.{put_back}
use Rattle.spf_plan.proofs.reorder.try_order.Goals as goal

pub returns-in-Some-clause-orders : goal.returns-in-Some-clause-orders
returns-in-Some-clause-orders c = (
  c.set-in-Some.ensures
      ∙ (ap (λ (orders : List (List ℕ)). slice_set orders c.args.of c.in_ok-old.old) c.set.ensures
      ∙ put_back c.args.places.now.orders c.args.of c.args.order c.in_ok-old.old c.index-as_slice-of.result c.in_ok-old.ensures (rw c.as_slice.ensures at c.index-as_slice-of.is)),
  record {
    earlier = c.in-Some.earlier;
    later = c.in-Some.later;
    first = rw c.set.ensures at c.in-Some.ensures;
    earlier_is = c.split.ensures;
    later_is = c.split-in-Some.ensures;
  },
)
