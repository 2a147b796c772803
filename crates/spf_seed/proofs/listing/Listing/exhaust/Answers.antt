use Rattle.std.proofs.Common.{◌≡◌, length, rules, arith}
use Rattle.spf_seed.specs.View.{AreNeighbours, positions}
use Rattle.spf_seed.proofs.Following.{order_short}
use Rattle.spf_seed.proofs.listing.Listing.exhaust.Goals as goal

pub loop-place-smaller : goal.loop-place-smaller
loop-place-smaller c =
    let order = c.loop-place.self.order.items in
    let long : c.len.result ≡ length order = search rules in
    omega (arith, long, c.loop-place-test.true, order_short (AreNeighbours c.args.view.now) (positions c.args.view.now) order c.loop-place.invariant.underway.each)
