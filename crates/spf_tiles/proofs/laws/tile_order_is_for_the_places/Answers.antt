use Rattle.spf_tiles.proofs.Graph.{order_for}
use Rattle.spf_tiles.proofs.laws.tile_order_is_for_the_places.Goals as goal

pub returns : goal.returns
returns c touches steps loops places orders tiles order are legal each is = order_for steps loops places orders are touches legal tiles order each is
