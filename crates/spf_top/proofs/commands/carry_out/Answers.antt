use Rattle.std.proofs.Common.{List, length, refl, inl, inr, ap, sym, ◌∙◌}
use Rattle.spf_space.specs.Layout.{iterations}
use Rattle.spf_space.specs.declared.shape.Shape.{Shape}
use Rattle.spf_input.specs.declared.reading.Bundle.{Bundle}
use Rattle.spf_plan.specs.Planned.{Planned}
use Rattle.spf_plan.specs.declared.plan_fault.PlanFault.TheVariants as plan_is
use Rattle.spf_script.specs.declared.resolved.Step.{Step}
use Rattle.spf_touch.specs.declared.touch.Touch.{Touch}
use Rattle.spf_top.proofs.Complete.{out_of_memory}
use Rattle.spf_top.proofs.commands.carry_out.Goals as goal

pub layered-requires-clause-lists : goal.layered-requires-clause-lists
layered-requires-clause-lists c =
    let walked = c.in-Ok.ensures.answer in
    ap length walked.1 ∙ c.touched_elements_are_cells.ensures.lists c.args.bundle.env c.args.bundle.kernel c.args.shape.now.steps ∙ ap iterations (sym c.requires.shape.loops)

pub layered-requires-clause-inside : goal.layered-requires-clause-inside
layered-requires-clause-inside c =
    let walked = c.in-Ok.ensures.answer in
    rw (walked.1, c.requires.shape.arrays) (c.touched_elements_are_cells.ensures.inside c.args.bundle.env c.args.bundle.kernel c.args.shape.now.steps walked.0)

pub returns-in-Err-resolved-clause-refused : goal.returns-in-Err-resolved-clause-refused
returns-in-Err-resolved-clause-refused c =
    inr (((c.args.bundle, c.args.shape.now), c.in-Ok.touches), (refl, c.in-Ok.ensures.answer), inl (c.in-Err-resolved.ensures.answer c.in-Ok.touches))

pub returns-in-Err-layered-clause-refused : goal.returns-in-Err-layered-clause-refused
returns-in-Err-layered-clause-refused c =
    let given : (Bundle × Shape) × List (List Touch) = ((c.args.bundle, c.args.shape.now), c.in-Ok.touches) in
    inr (given, (refl, c.in-Ok.ensures.answer), inr ((given, c.in-Ok-resolved.steps), (refl, c.in-Ok-resolved.ensures.answer c.in-Ok.touches), inl (plan_is.Memory, inl refl, c.in-Err-layered.ensures.refused)))

pub returns-in-Err-planned-clause-refused : goal.returns-in-Err-planned-clause-refused
returns-in-Err-planned-clause-refused c =
    let given : (Bundle × Shape) × List (List Touch) = ((c.args.bundle, c.args.shape.now), c.in-Ok.touches) in
    let failed = rw c.as_slice.ensures at c.in-Err-planned.ensures.answer in
    inr (given, (refl, c.in-Ok.ensures.answer), inr ((given, c.in-Ok-resolved.steps), (refl, c.in-Ok-resolved.ensures.answer c.in-Ok.touches), inl (failed c.args.bundle)))

pub returns-in-Ok-finish-clause-text : goal.returns-in-Ok-finish-clause-text
returns-in-Ok-finish-clause-text c =
    let given : (Bundle × Shape) × List (List Touch) = ((c.args.bundle, c.args.shape.now), c.in-Ok.touches) in
    let steps : ((Bundle × Shape) × List (List Touch)) × List Step = (given, c.in-Ok-resolved.steps) in
    let made = rw c.as_slice.ensures at c.in-Ok-planned.ensures.answer in
    let planned : (((Bundle × Shape) × List (List Touch)) × List Step) × Planned = (steps, c.in-Ok-planned.plan) in
    (given, (refl, c.in-Ok.ensures.answer), (steps, (refl, c.in-Ok-resolved.ensures.answer c.in-Ok.touches), (planned, (refl, made c.args.bundle), c.in-Ok-finish.ensures.text c.in-Ok-resolved.steps)))

pub returns-clause-refused : goal.returns-clause-refused
returns-clause-refused c =
    let given : (Bundle × Shape) × List (List Touch) = ((c.args.bundle, c.args.shape.now), c.in-Ok.touches) in
    let steps : ((Bundle × Shape) × List (List Touch)) × List Step = (given, c.in-Ok-resolved.steps) in
    let made = rw c.as_slice.ensures at c.in-Ok-planned.ensures.answer in
    let planned : (((Bundle × Shape) × List (List Touch)) × List Step) × Planned = (steps, c.in-Ok-planned.plan) in
    inr (given, (refl, c.in-Ok.ensures.answer), inr (steps, (refl, c.in-Ok-resolved.ensures.answer c.in-Ok.touches), inr (planned, (refl, made c.args.bundle), out_of_memory c.args.goal planned c.in-Err-finish.refusal c.in-Err-finish.ensures.refused)))
