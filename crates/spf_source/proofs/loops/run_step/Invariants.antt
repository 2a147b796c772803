use Rattle.spf_space.specs.Units.{loops_units}
use Rattle.spf_store.specs.Shaped.{loops_of}
use Rattle.spf_store.specs.Source.{units_effect}
use Rattle.spf_source.proofs.UnitRows.{loops_left}
use Rattle.spf_source.proofs.Way.{OnTheWay}
use Rattle.spf_source.proofs.loops.run_step.Given as goal

abbrev pub invariant-loop-loop_no : goal.invariant-loop-loop_no
invariant-loop-loop_no g l =
    OnTheWay g.C.Cells.own g.C.Cells.value g.C.Cells.kept l.fn.cells l.cells (units_effect l.given.env.now l.tree (loops_units 0 0 (loops_of l.given.env.now l.tree)))
    (loops_left l.given.env.now l.tree l.loop_no)
