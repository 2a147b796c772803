use Rattle.std.proofs.Common.{◌+◌, arith}
use Rattle.spf_store.specs.Source.{units_effect}
use Rattle.spf_source.specs.Ready.{loop_units}
use Rattle.spf_source.proofs.UnitRows.{last_loop, loops_left, next_loop}
use Rattle.spf_source.proofs.Way.{arrived, went_on}
use Rattle.spf_source.proofs.loops.run_step.Goals as goal

pub loop-loop_no-preserved : goal.loop-loop_no-preserved
loop-loop_no-preserved g c =
    let env = c.args.given.now.env.now in
    let tree = c.args.tree.now in
    went_on g.C.Cells.own g.C.Cells.value g.C.Cells.kept g.met.C.Cells.kept_on c.args.cells.now c.loop-loop_no.cells c.run_loop.new.cells _ _
    (units_effect env tree (loop_units env tree c.loop-loop_no.loop_no)) (loops_left env tree (c.loop-loop_no.loop_no + 1))
    (next_loop env tree c.loop-loop_no.loop_no (omega (arith, c.loop-loop_no-test.true, c.len-loop_no-end.ensures))) c.loop-loop_no.invariant c.run_loop.ensures

pub returns : goal.returns
returns g c =
    arrived g.C.Cells.own g.C.Cells.value g.C.Cells.kept c.args.cells.now c.loop-loop_no.cells _ _
    (last_loop c.args.given.now.env.now c.args.tree.now c.loop-loop_no.loop_no (omega (arith, c.loop-loop_no-test.false, c.len-loop_no-end.ensures))) c.loop-loop_no.invariant
