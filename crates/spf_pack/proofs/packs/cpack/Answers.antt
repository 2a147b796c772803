use Rattle.std.proofs.Common.{◌+◌, length, ap, arith}
use Rattle.std.proofs.lemmas.List.{length-map}
use Rattle.spf_pack.specs.FirstTouch.{in_turn}
use Rattle.spf_pack.proofs.Lengths.{first_is}
use Rattle.spf_space.proofs.Standing.{reach}
use Rattle.spf_pack.proofs.Turned.{length-in_turn}
use Rattle.spf_pack.proofs.packs.cpack.Goals as goal

pub iterations_in_order-requires : goal.iterations_in_order-requires
iterations_in_order-requires c =
    let shape = c.args.shape.now in
    omega (arith, c.before-2.ensures, shape.layout.per_step, reach shape.loops c.args.by (length c.args.order.now) c.requires.loop_there c.requires.positions)

pub packed-requires-clause-members : goal.packed-requires-clause-members
packed-requires-clause-members c =
    rw (c.as_slice.ensures, first_is c.args.members.now c.args.now.now c.index-now-members.result c.requires.arrays.packed c.index-now-members.is) c.requires.arrays.alike

pub packed-requires-clause-touches : goal.packed-requires-clause-touches
packed-requires-clause-touches c some =
    let shape = c.args.shape.now in
    let units = ap length (rw c.in_ok-units.ensures at c.as_slice-2.ensures.value) in
    omega (
      arith,
      units,
      length-map (in_turn c.args.order.now) (λ iteration. c.before-2.result + iteration),
      length-in_turn c.args.order.now,
      c.requires.arrays.touch_lists,
      reach shape.loops c.args.by (length c.args.order.now) c.requires.loop_there c.requires.positions,
    )
