use Rattle.std.proofs.Common.{List, ℕ, ◌++◌, ap, ◌∙◌, subst}
use Rattle.spf_perm.specs.Perm.{IsPerm}
use Rattle.spf_top.proofs.PlanTexts.{loop_is}
use Rattle.spf_top.proofs.plan_text.push_loop.Goals as goal

pub returns : goal.returns
returns c =
    loop_is c.args.each.now c.args.order.now c.in_ok-sources.sources c.args.text.now.items _ _ _ _ c.in_ok-sources.ensures (subst IsPerm c.sources.view_is c.sources.invariant) c.requires.extent
    c.in_ok-extend_from_slice.ensures.items (c.in_ok-extend_from_slice-2.ensures.items ∙ ap (λ (name : List ℕ). c.extend_from_slice.new.self.items ++ name) c.bytes.ensures.bytes) c.in_ok-push_iterations.ensures c.in_ok-push.ensures.items
