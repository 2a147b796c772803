use Rattle.std.proofs.Common.{slice_get}
use Rattle.spf_store.specs.Source.{units_effect}
use Rattle.spf_source.specs.Ready.{extent_of, loop_units}
use Rattle.spf_source.proofs.UnitRows.{positions_left}
use Rattle.spf_source.proofs.Way.{OnTheWay}
use Rattle.spf_source.proofs.loops.run_loop.Given as goal

abbrev pub invariant-loop-position : goal.invariant-loop-position
invariant-loop-position g l =
    OnTheWay g.C.Cells.own g.C.Cells.value g.C.Cells.kept l.fn.cells l.cells (units_effect l.given.env.now l.tree (loop_units l.given.env.now l.tree l.loop_no))
    (positions_left l.given.env.now l.tree l.loop_no (extent_of l.given.env.now l.tree (slice_get l.tree.loops l.loop_no)) l.position)
