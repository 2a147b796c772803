use Rattle.std.proofs.Common.{inr}
use Rattle.spf_plan.proofs.plans.Plan.step.Goals as goal

pub returns-in_ok-order-in-LexGroup-clause-takes : goal.returns-in_ok-order-in-LexGroup-clause-takes
returns-in_ok-order-in-LexGroup-clause-takes c =
    rw c.in-LexGroup.is (inr (
      c.in_ok-order-in-LexGroup.order,
      record { perm = c.reorder.ensures.perm; ordered = rw (c.order-old.ensures, c.pack-now.ensures) at c.in_ok-order-in-LexGroup.ensures },
      c.reorder.ensures.reorders,
    ))

pub returns-in_ok-order-in-LexSort-clause-takes : goal.returns-in_ok-order-in-LexSort-clause-takes
returns-in_ok-order-in-LexSort-clause-takes c =
    rw c.in-LexSort.is (inr (
      c.in_ok-order-in-LexSort.order,
      record { perm = c.reorder-in-LexSort.ensures.perm; ordered = rw (c.order-old-in-LexSort.ensures, c.pack-now-in-LexSort.ensures) at c.in_ok-order-in-LexSort.ensures },
      c.reorder-in-LexSort.ensures.reorders,
    ))

pub returns-in_ok-order-in-Bucket-clause-takes : goal.returns-in_ok-order-in-Bucket-clause-takes
returns-in_ok-order-in-Bucket-clause-takes c =
    rw c.in-Bucket.is (inr (
      c.in_ok-order-in-Bucket.order,
      record { perm = c.reorder-in-Bucket.ensures.perm; ordered = rw (c.order-old-in-Bucket.ensures, c.pack-now-in-Bucket.ensures) at c.in_ok-order-in-Bucket.ensures },
      c.reorder-in-Bucket.ensures.reorders,
    ))
