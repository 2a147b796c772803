use Rattle.spf_touch.specs.RenamingLaw.{renamed_law}
use Rattle.spf_store.specs.Behavior.{source_behavior, unit_at}
use Rattle.spf_store.specs.BehaviorLaw.{source_law}
use Rattle.spf_store.proofs.UnitAt.{in_range}
use Rattle.spf_exec.proofs.Behaving.{is_unit, mine_after, mine_owned}
use Rattle.spf_exec.proofs.units.executor_runs_renamed_units.Goals as goal

pub returns-clause-effect : goal.returns-clause-effect
returns-clause-effect c env tree moved orders packings renaming steps u bound range inside values e =
    let of = unit_at env tree steps u in
    let is = is_unit env tree steps u inside in
    let allowed = in_range env tree steps u inside range in
    mine_after env tree steps u inside moved orders packings renaming (c.executor_units_are_renamed.ensures.accesses env tree moved orders packings renaming of bound is allowed)
    (c.executor_units_are_renamed.ensures.effects env tree moved orders packings renaming of bound is allowed) values e

pub returns-clause-own : goal.returns-clause-own
returns-clause-own c env tree moved orders packings renaming steps u bound range inside owns own =
    mine_owned env tree steps u inside moved orders packings renaming
    (c.executor_units_are_renamed.ensures.accesses env tree moved orders packings renaming (unit_at env tree steps u) bound (is_unit env tree steps u inside) (in_range env tree steps u inside range)) owns own

pub returns-clause-frame : goal.returns-clause-frame
returns-clause-frame c env tree renaming steps = renamed_law renaming (source_behavior env tree steps) (source_law env tree steps)
