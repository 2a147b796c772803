use Rattle.spf_job.proofs.PlanMoves.{arrays_move, loops_move, packs_are}
use Rattle.spf_job.proofs.moves.moved.Goals as goal

pub returns-clause-loops : goal.returns-clause-loops
returns-clause-loops c =
    let loops = rw (c.moved_loops.ensures, c.as_slice-orders.ensures, c.places.ensures.orders) at c.in_ok-loops.ensures in
    rw loops (loops_move c.requires.0 c.args.shape.now c.args.plan.now c.requires.1)

pub returns-clause-arrays : goal.returns-clause-arrays
returns-clause-arrays c =
    let arrays = rw (c.moved_arrays.ensures, c.packs.ensures) at c.in_ok-arrays.ensures in
    rw arrays (arrays_move c.requires.0 c.args.shape.now c.args.plan.now c.requires.1)

pub returns-clause-packings : goal.returns-clause-packings
returns-clause-packings c =
    let arrays = rw (c.moved_arrays.ensures, c.packs.ensures) at c.in_ok-arrays.ensures in
    rw arrays (packs_are c.requires.0 c.args.shape.now c.args.plan.now c.requires.1)
