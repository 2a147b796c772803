use Rattle.std.proofs.Common.{◌≤◌, get_or, refl, arith}
use Rattle.std.proofs.lemmas.List.{get_or_default}
use Rattle.spf_touch.specs.declared.class.Class.TheVariants.{Read}
use Rattle.spf_touch.specs.declared.touch.Touch.{Touch}
use Rattle.spf_tiles.proofs.Joins.{step_joined}
use Rattle.spf_tiles.proofs.joining.joined.Goals as goal

abbrev none : Touch
none = record { element = 0; class = Read }

pub add-requires-clause-behind : goal.add-requires-clause-behind
add-requires-clause-behind c = c.loop-touch.invariant.behind c.loop-touch.touch-index none (omega arith) c.loop-touch-test.true

pub loop-touch-preserved : goal.loop-touch-preserved
loop-touch-preserved c =
    let ts = c.args.touches.now in
    let k = c.loop-touch.touch-index in
    record {
      rising = c.in_ok-add.ensures.rising;
      behind = λ j d low inside i d' there.
          let last : (get_or ts k d).element ≤ (get_or ts j d).element = c.requires k j d (omega arith) inside in
          let mine : (get_or c.add.new.foot.items i d').element ≤ (get_or ts k none).element = c.in_ok-add.ensures.behind i d' there in
          let same : (get_or ts k none).element ≤ (get_or ts k d).element = rw (get_or_default ts k none d c.loop-touch-test.true) (omega arith) in
          omega (arith, last, mine, same);
      classes = rw c.in_ok-add.ensures.noted (step_joined ts c.loop-touch.foot.items k none (get_or ts k none) c.loop-touch-test.true refl c.loop-touch.invariant.classes);
    }
