use Rattle.std.proofs.Common.{refl}
use Rattle.std.proofs.lemmas.Option.{slice_get_read}
use Rattle.spf_space.proofs.Standing.{in_step}
use Rattle.spf_space.proofs.shape.unit_in_step.Goals as goal

pub returns-then-position-each : goal.returns-then-position-each
returns-then-position-each c =
    let loops = c.args.loops.now in
    let there = slice_get_read loops _ c.loop-loop_no.loop_no _ refl c.loop-loop_no-test.true c.index-loops-loop_no.is in
    rw c.loop-loop_no.invariant at (in_step c.args.step loops c.loop-loop_no.loop_no _ c.loop-loop_no.position there c.if-position-each.true)
