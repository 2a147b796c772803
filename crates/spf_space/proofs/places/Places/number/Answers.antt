use Rattle.spf_space.proofs.Placed.{loop_within, moved_is, number_read, position_within}
use Rattle.spf_space.proofs.Textual.{stood}
use Rattle.spf_space.proofs.places.Places.number.Goals as goal

pub turn-turn-requires-clause-there : goal.turn-turn-requires-clause-there
turn-turn-requires-clause-there c =
    let shape = c.args.shape.now in
    let is = (stood shape.steps shape.loops _ _ c.split.ensures).0 in
    loop_within shape.steps shape.loops c.args.self.now.tiles c.args.self.now.orders c.requires.places c.split.result is

pub turn-turn-requires-clause-position : goal.turn-turn-requires-clause-position
turn-turn-requires-clause-position c =
    let shape = c.args.shape.now in
    let is = (stood shape.steps shape.loops _ _ c.split.ensures).0 in
    position_within shape.steps shape.loops c.args.self.now.tiles c.args.self.now.orders c.requires.places c.split.result is

pub ordinal-requires : goal.ordinal-requires
ordinal-requires c =
    let shape = c.args.shape.now in
    let is = (stood shape.steps shape.loops _ _ c.split.ensures).0 in
    rw c.turn-turn.ensures (moved_is shape.steps shape.loops c.args.self.now.tiles c.args.self.now.orders c.requires.places c.split.result is)

pub returns : goal.returns
returns c =
    let shape = c.args.shape.now in
    let turned = rw c.turn-turn.ensures at c.ordinal.ensures in
    let whole = number_read shape.steps shape.loops c.args.self.now.tiles c.args.self.now.orders c.requires.places c.args.u c.ordinal.result c.split.result c.split.ensures turned in
    rw (c.from.ensures, c.from-2.ensures, c.from-3.ensures, c.units.ensures.count, c.as_slice.ensures) whole
