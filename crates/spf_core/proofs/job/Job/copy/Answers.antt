use Rattle.std.proofs.Common.{◌∙◌, ap}
use Rattle.spf_touch.specs.Copy.{copy_at}
use Rattle.spf_core.specs.Replay.{values_of}
use Rattle.spf_core.proofs.Tiles.{foot_places}
use Rattle.spf_core.proofs.job.Job.copy.Goals as goal

pub copy_foot-requires-clause-rising : goal.copy_foot-requires-clause-rising
copy_foot-requires-clause-rising g c = rw c.foot.ensures.foot c.foot.ensures.sound.rising

pub copy_foot-requires-clause-places : goal.copy_foot-requires-clause-places
copy_foot-requires-clause-places g c = rw (c.foot.ensures.foot, c.requires.cells) (foot_places _ _ c.args.tile c.foot.ensures.sound)

pub returns-clause-values : goal.returns-clause-values
returns-clause-values g c e =
    c.copy_foot.ensures.values e ∙ (rw c.foot.ensures.foot (ap (λ class. copy_at class (values_of c.args.cells.now e)) (c.foot.ensures.sound.classes e)))
