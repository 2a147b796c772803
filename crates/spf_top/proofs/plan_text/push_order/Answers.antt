use Rattle.std.proofs.Common.{ap, [], slice_index_or}
use Rattle.spf_top.specs.PlanText.{before_line}
use Rattle.spf_top.proofs.PlanTexts.{grown}
use Rattle.spf_top.proofs.plan_text.push_order.Goals as goal

pub loop-tile-preserved : goal.loop-tile-preserved
loop-tile-preserved c =
    grown (λ tile. before_line tile (slice_index_or c.args.order.now tile [])) c.args.text.now.items c.loop-tile.text.items c.push_before.new.text.items _ c.loop-tile.tile c.loop-tile.invariant
    c.in_ok-push_before.ensures (ap (before_line c.loop-tile.tile) c.tiles_before.ensures.tiles)
