use Rattle.spf_plan.proofs.Tilings.{plan_tiled}
use Rattle.spf_plan.proofs.plans.Plan.tile.Goals as goal

pub returns-in-Ok-clause-plan : goal.returns-in-Ok-clause-plan
returns-in-Ok-clause-plan c =
    rw c.from_vec.ensures
    (plan_tiled c.args.touches.now c.args.shape.now _ (rw (← c.self.view_is) at c.requires.plan) (rw (← c.self.view_is) at c.requires.once) _ _ c.args.tiling.parts c.in-Ok.tiles.items c.in-Ok.ensures.grown c.requires.step.3 c.requires.step.4)
