use Rattle.std.proofs.Common.{◌∙◌, sym}
use Rattle.spf_core.proofs.MarkSteps.{marked_more}
use Rattle.spf_touch.proofs.Members.{in_at}
use Rattle.spf_core.proofs.order.all_marked.Goals as goal

pub returns-then-not-marks-tile : goal.returns-then-not-marks-tile
returns-then-not-marks-tile c =
    (λ never. cc, λ all. sym c.if-not-marks-tile.true ∙ all _ (in_at c.args.tiles.now c.loop-tile.tile-index 0 c.loop-tile-test.true))

pub loop-tile-preserved : goal.loop-tile-preserved
loop-tile-preserved c = marked_more c.args.tiles.now c.args.marks.now c.loop-tile.tile-index 0 c.loop-tile-test.true c.if-not-marks-tile.false c.loop-tile.invariant
