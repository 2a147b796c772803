use Rattle.std.proofs.Common.{◌<◌, length, get_or, arith}
use Rattle.std.proofs.lemmas.List.{get_or_default}
use Rattle.spf_touch.specs.declared.class.Class.TheVariants.{Read}
use Rattle.spf_touch.specs.declared.touch.Touch.{Touch}
use Rattle.spf_grow.proofs.Noting.{noted_more}
use Rattle.spf_grow.proofs.extremes.note.Goals as goal

abbrev none : Touch
none = record { element = 0; class = Read }

pub loop-touch-preserved : goal.loop-touch-preserved
loop-touch-preserved c =
    let k = c.loop-touch.touch-index in
    let there : k < length c.args.touches.now = c.loop-touch-test.true in
    let inside : (get_or c.args.touches.now k none).element < length c.loop-touch.bounds = omega (arith, c.loop-touch.invariant.len, c.requires k none there) in
    rw c.with.ensures
    (noted_more c.args.bounds.now c.loop-touch.bounds c.args.touches.now k c.args.number (get_or c.args.touches.now k none)
    (λ d. get_or_default c.args.touches.now k d none there) there inside c.loop-touch.invariant)
