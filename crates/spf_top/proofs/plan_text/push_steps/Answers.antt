use Rattle.std.proofs.Common.{refl}
use Rattle.spf_top.specs.PlanText.{step_lines}
use Rattle.spf_top.proofs.PlanTexts.{grown}
use Rattle.spf_top.proofs.plan_text.push_steps.Goals as goal

pub loop-step-preserved : goal.loop-step-preserved
loop-step-preserved c =
    grown (step_lines c.args.shape.now.loops c.args.tiles.now) c.args.text.now.items c.loop-step.text.items c.push_step.new.text.items _ c.loop-step.step c.loop-step.invariant c.in_ok-push_step.ensures refl
