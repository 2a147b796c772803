use Rattle.spf_plan.proofs.Packings.{alike_within, plan_packed}
use Rattle.spf_plan.proofs.plans.Plan.pack_arrays.Goals as goal

pub mark-requires : goal.mark-requires
mark-requires c = alike_within c.args.shape.now c.args.arrays.now _ c.requires.alike (rw (← c.self.view_is) at c.requires.plan).each_array

pub returns-clause-plan : goal.returns-clause-plan
returns-clause-plan c =
    rw c.mark.ensures
    (plan_packed c.args.arrays.now _ c.args.touches.now c.args.shape.now _ c.in_ok-packs.packs (rw (← c.self.view_is) at c.requires.plan) (rw c.as_slice.ensures at c.in_ok-packs.ensures))
