use Rattle.std.proofs.Common.{length, ap, ◌∙◌, arith}
use Rattle.spf_plan.proofs.Tilings.{parts_below, seed_long}
use Rattle.spf_space.proofs.Standing.{reach}
use Rattle.spf_plan.proofs.Views.{fall_there}
use Rattle.spf_plan.proofs.tiling.grown_tiles.Goals as goal

pub seed_parts-requires-clause-positions : goal.seed_parts-requires-clause-positions
seed_parts-requires-clause-positions c =
    omega (arith, c.requires.lists, reach c.args.shape.now.loops c.args.tiling.of (length c.args.order.now) c.requires.step.0 c.requires.positions)

pub by_iteration-requires : goal.by_iteration-requires
by_iteration-requires c =
    ap length c.as_slice.ensures.value
    ∙ seed_long c.args.touches.now c.args.shape.now c.args.tiling.of c.args.order.now c.args.tiling.seed c.args.tiling.parts c.in_ok-list.list.items c.in_ok-list.ensures.seeded

pub grow-requires-clause-below : goal.grow-requires-clause-below
grow-requires-clause-below c =
    let long = seed_long c.args.touches.now c.args.shape.now c.args.tiling.of c.args.order.now c.args.tiling.seed c.args.tiling.parts c.in_ok-list.list.items c.in_ok-list.ensures.seeded in
    rw (c.as_slice-2.ensures.value, c.in_ok-seed.ensures, c.as_slice.ensures.value)
    (parts_below c.args.order.now c.in_ok-list.list.items c.args.tiling.parts c.requires.perm long c.in_ok-list.ensures.below)

pub split-requires : goal.split-requires
split-requires c =
    let fall = rw (c.in-Err-Reversed.field-0-is, c.as_slice-2.ensures.value, c.in_ok-seed.ensures) at c.in-Err-Reversed.ensures in
    (fall_there c.args.shape.now.steps c.args.shape.now.loops c.args.tiling.step c.args.tiling.of c.requires.step.1 c.requires.step.0 c.args.order.now c.as_slice.result.now c.requires.positions _ _ _ fall.there).0

pub split-requires-in-Err-Reversed : goal.split-requires-in-Err-Reversed
split-requires-in-Err-Reversed c =
    let fall = rw (c.in-Err-Reversed.field-0-is, c.as_slice-2.ensures.value, c.in_ok-seed.ensures) at c.in-Err-Reversed.ensures in
    (fall_there c.args.shape.now.steps c.args.shape.now.loops c.args.tiling.step c.args.tiling.of c.requires.step.1 c.requires.step.0 c.args.order.now c.as_slice.result.now c.requires.positions _ _ _ fall.there).1
