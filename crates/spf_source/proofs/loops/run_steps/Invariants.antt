use Rattle.spf_space.specs.Units.{units_of}
use Rattle.spf_store.specs.Shaped.{loops_of}
use Rattle.spf_store.specs.Source.{units_effect}
use Rattle.spf_source.proofs.UnitRows.{steps_left}
use Rattle.spf_source.proofs.Way.{OnTheWay}
use Rattle.spf_source.proofs.loops.run_steps.Given as goal

abbrev pub invariant-loop-step : goal.invariant-loop-step
invariant-loop-step g l =
    OnTheWay g.C.Cells.own g.C.Cells.value g.C.Cells.kept l.fn.cells l.cells (units_effect l.given.env.now l.tree (units_of l.steps (loops_of l.given.env.now l.tree)))
    (steps_left l.given.env.now l.tree l.steps l._step)
