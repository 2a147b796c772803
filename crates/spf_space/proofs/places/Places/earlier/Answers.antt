use Rattle.spf_space.proofs.Placed.{compared}
use Rattle.spf_space.proofs.places.Places.earlier.Goals as goal

pub returns : goal.returns
returns c =
    let shape = c.args.shape.now in
    compared shape.steps shape.loops c.args.self.now.tiles c.args.self.now.orders c.requires.places c.args.u c.args.v c.number.result c.number-2.result c.requires.first c.requires.second c.number.ensures c.number-2.ensures
