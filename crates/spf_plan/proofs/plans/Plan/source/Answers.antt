use Rattle.std.proofs.Common.{◌≡◌, sym, subst}
use Rattle.std.proofs.lemmas.Result.{IfOk-weaker}
use Rattle.spf_plan.specs.Planned.{IsPlanOf, Planned, source_plan}
use Rattle.spf_plan.proofs.Sources.{source_is_plan}
use Rattle.spf_plan.proofs.plans.Plan.source.Goals as goal

pub returns-clause-plan : goal.returns-clause-plan
returns-clause-plan c =
    let touches = c.args.touches.now in
    let shape = c.args.shape.now in
    IfOk-weaker c.of_shape.result (λ (plan : Planned). plan ≡ source_plan shape) (IsPlanOf touches shape)
    (λ plan is. subst (IsPlanOf touches shape) (sym is) (source_is_plan shape touches shape.layout)) c.of_shape.ensures
