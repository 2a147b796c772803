use Rattle.std.proofs.Common.{◌≤◌, length, sym, arith}
use Rattle.spf_touch.proofs.Noted.{noted_hit, noted_new}
use Rattle.spf_touch.proofs.op_units.note.Goals as goal

pub returns-then-index-element : goal.returns-then-index-element
returns-then-index-element c =
    noted_hit _ _ _ _ _ _ _ _ c.loop-place.invariant.same c.loop-place.invariant.free (omega arith) c.if-index-element.true c.index.ensures c.index-then-index-element.ensures c.join-joined.ensures

pub returns : goal.returns
returns c =
    let past : length c.args.touches.now.items ≤ c.loop-place.place = omega arith in
    rw (c.in_ok-push.ensures.items, c.loop-place.invariant.same) (sym (noted_new _ _ _ (λ k d inside. c.loop-place.invariant.free k d (omega arith))))
