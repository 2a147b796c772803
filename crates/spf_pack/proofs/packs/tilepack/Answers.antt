use Rattle.std.proofs.Common.{◌<◌, length, ap, arith}
use Rattle.std.proofs.lemmas.List.FromFn.{length-range_with_len}
use Rattle.std.proofs.lemmas.List.Sorted.{length_permutation}
use Rattle.spf_space.specs.InOrder.{units_in}
use Rattle.spf_pack.proofs.Lengths.{first_is}
use Rattle.spf_space.proofs.Standing.{some_iterations}
use Rattle.spf_pack.proofs.packs.tilepack.Goals as goal

pub packed-requires-clause-members : goal.packed-requires-clause-members
packed-requires-clause-members c =
    rw (c.as_slice.ensures, first_is c.args.members.now c.args.now.now c.index-now-members.result c.requires.arrays.packed c.index-now-members.is) c.requires.arrays.alike

pub packed-requires-clause-touches : goal.packed-requires-clause-touches
packed-requires-clause-touches c some =
    let shape = c.args.shape.now in
    let long : 0 < units_in shape =
    omega (arith, some, ap length c.as_slice-2.ensures.value, length_permutation _ c.in_ok-units.units.items c.in_ok-units.ensures.each, length-range_with_len 0 (units_in shape)) in
    omega (arith, c.requires.arrays.touch_lists, some_iterations shape.steps shape.loops long)
