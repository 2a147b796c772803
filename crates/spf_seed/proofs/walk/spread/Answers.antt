use Rattle.std.proofs.Common.{arith}
use Rattle.spf_seed.specs.View.{AreNeighbours, positions}
use Rattle.spf_seed.proofs.Following.{order_apart}
use Rattle.spf_seed.proofs.walk.spread.Goals as goal

pub parts_along-requires-clause-distinct : goal.parts_along-requires-clause-distinct
parts_along-requires-clause-distinct c =
    let walk = c.in_ok-order.ensures in
    rw c.as_slice.ensures.value (λ r s. order_apart (AreNeighbours c.args.view.now) (positions c.args.view.now) c.in_ok-order.order.items (λ q inside. walk.each q (omega (arith, walk.long))) r s)
