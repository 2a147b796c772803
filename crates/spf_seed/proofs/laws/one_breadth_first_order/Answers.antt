use Rattle.spf_seed.specs.View.{AreNeighbours, positions}
use Rattle.spf_seed.proofs.Following.{one_order, one_spread}
use Rattle.spf_seed.proofs.laws.one_breadth_first_order.Goals as goal

pub returns : goal.returns
returns c = record { order = λ view a b. one_order (AreNeighbours view) (positions view) a b; parts = one_spread }
