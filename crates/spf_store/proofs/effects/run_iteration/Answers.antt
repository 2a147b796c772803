use Rattle.spf_store.specs.Trace.{items_trace}
use Rattle.spf_store.proofs.Carried.{through_is_done}
use Rattle.spf_store.proofs.effects.run_iteration.Goals as goal

pub returns : goal.returns
returns g c =
    through_is_done g.C.Cells.own g.C.Cells.value g.C.Cells.kept g.met.C.Cells.kept_at_first g.met.C.Cells.kept_on c.args.env.now c.args.starts.now
    (items_trace c.args.env.now c.args.iteration.now 1 c.args.items.now) c.args.cells.now c.walk_iteration.new.state c.in-Ok.ensures
