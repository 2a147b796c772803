use Rattle.std.proofs.Common.{◌<◌, length, subst, sym}
use Rattle.spf_core.specs.Parts.{Parts}
use Rattle.spf_core.specs.SoundJob.{IsFoot}
use Rattle.spf_core.proofs.job.Job.foot.Goals as goal

pub returns-clause-sound : goal.returns-clause-sound
returns-clause-sound g c =
    let inside = subst (λ (p : Parts g.row.U.Denot). c.args.tile < length p.tiling.lists) (sym c.self.view_is) c.requires in
    subst (λ (p : Parts g.row.U.Denot). IsFoot (g.U.Units.behavior p.units) p.tiling c.args.tile) c.self.view_is (c.self.invariant.feet c.args.tile inside)
