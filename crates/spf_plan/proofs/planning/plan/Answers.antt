use Rattle.std.proofs.Common.{Result, ◌+◌, length, inr, refl}
use Rattle.std.proofs.lemmas.Option.{slice_get_read}
use Rattle.spf_plan.specs.Planned.{Planned, source_plan}
use Rattle.spf_plan.specs.Taken.{IsPlanAnswer, TakesAll}
use Rattle.spf_plan.specs.declared.plan_fault.PlanFault.{PlanFault}
use Rattle.spf_plan.proofs.Chain.{passed_on, refused_here, taken_further, untiled_further}
use Rattle.spf_plan.proofs.planning.plan.Goals as goal

pub returns-in_err-step-clause-answer : goal.returns-in_err-step-clause-answer
returns-in_err-step-clause-answer c =
    let touches = c.args.touches.now in
    let shape = c.args.shape.now in
    let steps = c.args.steps.now in
    let index = c.loop-index.index in
    let there = slice_get_read steps (length steps) index c.index-steps-index.result refl c.loop-index-test.true c.index-steps-index.is in
    let takes = rw c.in_ok-number_of.ensures at c.in_err-step.ensures.takes in
    let here = rw c.in_err-step.ensures.refused at takes in
    let refused = refused_here touches shape (λ (result : Result Planned PlanFault). TakesAll touches shape 1 steps (source_plan shape) result) steps index c.index-steps-index.result c.loop-index.plan
    c.in_err-step.field-0.0 c.loop-index.invariant.rest there here in
    passed_on (IsPlanAnswer touches shape steps) c.in_err-step.field-0.0 c.from_residual-in_err-step.result c.from_residual-in_err-step.ensures.1 (inr refused)

pub loop-index-preserved : goal.loop-index-preserved
loop-index-preserved c =
    let touches = c.args.touches.now in
    let shape = c.args.shape.now in
    let steps = c.args.steps.now in
    let index = c.loop-index.index in
    let there = slice_get_read steps (length steps) index c.index-steps-index.result refl c.loop-index-test.true c.index-steps-index.is in
    record {
      kept = c.in_ok-step.ensures.plan;
      untiled = untiled_further touches shape (index + 1) c.loop-index.plan c.step.new.self steps index c.index-steps-index.result c.requires.once there (rw c.in_ok-number_of.ensures at c.in_ok-step.ensures.takes) c.loop-index.invariant.untiled;
      rest = taken_further touches shape (λ (result : Result Planned PlanFault). TakesAll touches shape 1 steps (source_plan shape) result) steps index c.index-steps-index.result c.loop-index.plan
          c.step.new.self c.loop-index.invariant.rest there (rw c.in_ok-number_of.ensures at c.in_ok-step.ensures.takes);
    }
