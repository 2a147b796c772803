use Rattle.std.proofs.Common.{◌∙◌}
use Rattle.spf_core.proofs.StateSteps.{after_history, published_result}
use Rattle.spf_core.proofs.state.State.step.Goals as goal

pub returns-in-Claim-clause-published : goal.returns-in-Claim-clause-published
returns-in-Claim-clause-published g c =
    published_result (g.U.Units.behavior c.args.job.now.units) (g.met.U.Units.framed c.args.job.now.units) c.args.job.now.tiling c.sound.ensures c.claim.new.self
    (after_history _ _ _ _ c.claim.ensures.after c.in-Claim.is c.requires.can) (c.claim.ensures.after.order ∙ c.requires.order) c.claim.ensures.replayed

pub returns-in-Publish-clause-published : goal.returns-in-Publish-clause-published
returns-in-Publish-clause-published g c =
    published_result (g.U.Units.behavior c.args.job.now.units) (g.met.U.Units.framed c.args.job.now.units) c.args.job.now.tiling c.sound.ensures c.publish.new.self
    (after_history _ _ _ _ c.publish.ensures.after c.in-Publish.is c.requires.can) (c.publish.ensures.after.order ∙ c.requires.order) c.publish.ensures.replayed
