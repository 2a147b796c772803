use Rattle.std.proofs.Common.{◌∙◌, ap, subst}
use Rattle.spf_touch.specs.Copy.{value_or_0}
use Rattle.spf_touch.specs.Frame.{IsTouched, blend_at}
use Rattle.spf_core.specs.Copies.{value_in}
use Rattle.spf_core.specs.Replay.{values_of}
use Rattle.spf_core.proofs.Tiles.{foot_class, foot_places}
use Rattle.spf_core.proofs.job.Job.merge.Goals as goal

pub merge_foot-requires-clause-rising : goal.merge_foot-requires-clause-rising
merge_foot-requires-clause-rising g c = rw c.foot.ensures.foot c.foot.ensures.sound.rising

pub merge_foot-requires-clause-places : goal.merge_foot-requires-clause-places
merge_foot-requires-clause-places g c = rw (c.foot.ensures.foot, c.requires.cells) (foot_places _ _ c.args.tile c.foot.ensures.sound)

pub merge_foot-requires-clause-keys : goal.merge_foot-requires-clause-keys
merge_foot-requires-clause-keys g c e t = c.requires.keys e ∙ foot_class _ _ c.args.tile c.foot.ensures.sound e (subst (λ f. IsTouched f e) c.foot.ensures.foot t)

pub returns : goal.returns
returns g c e =
    c.merge_foot.ensures e ∙ (rw c.foot.ensures.foot (ap (λ class. blend_at class (values_of c.args.cells.now e) (value_or_0 (value_in c.args.copied.now e))) (c.foot.ensures.sound.classes e)))
