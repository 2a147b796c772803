use Rattle.std.proofs.Common.{sym, ◌∙◌}
use Rattle.spf_core.proofs.MarkSteps.{history_more, history_parts}
use Rattle.spf_core.proofs.past.Past.can.Goals as goal

pub returns-in-Claim : goal.returns-in-Claim
returns-in-Claim c = rw c.in-Claim.is
    (λ yes'. history_more _ _ _ _ c.may_claim.ensures.history (c.may_claim.ensures.may.0 yes'), λ h. c.may_claim.ensures.may.1 (history_parts _ _ _ _ h).1)

pub returns-in-Publish : goal.returns-in-Publish
returns-in-Publish c = rw c.in-Publish.is
    (λ yes'. history_more _ _ _ _ c.holds.ensures.history (sym c.holds.ensures.holds ∙ yes'), λ h. c.holds.ensures.holds ∙ (history_parts _ _ _ _ h).1)
