use Rattle.std.proofs.Common.{◌<◌, [], ◌∷◌, length, take, append_assoc, arith}
use Rattle.std.proofs.lemmas.List.{take_more}
use Rattle.std.proofs.lemmas.Option.{get_or_from_slice_get}
use Rattle.spf_tiles.proofs.feet.push_touches.Goals as goal

pub loop-nth-preserved : goal.loop-nth-preserved
loop-nth-preserved g c =
    let touches = (g.U.Units.behavior c.args.units.now).touches c.args.unit in
    let lt : c.loop-nth.nth < length touches = omega (arith, c.touch_count-nth-end.ensures, c.loop-nth-test.true) in
    rw (c.in_ok-push.ensures.items, c.loop-nth.invariant, take_more touches c.loop-nth.nth c.touch.result lt, get_or_from_slice_get touches c.loop-nth.nth c.touch.result c.touch.result c.touch.ensures)
    (append_assoc c.args.touches.now.items (take c.loop-nth.nth touches) (c.touch.result ∷ []))
