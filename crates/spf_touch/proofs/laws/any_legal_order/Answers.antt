use Rattle.std.proofs.Common.{ap}
use Rattle.spf_touch.proofs.Orders.{reordered}
use Rattle.spf_touch.proofs.laws.any_legal_order.Goals as goal

pub returns : goal.returns
returns c units us values law legal e = ap (λ f. f e) (reordered units law us values legal)
