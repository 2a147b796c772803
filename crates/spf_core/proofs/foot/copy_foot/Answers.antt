use Rattle.std.proofs.Common.{◌<◌, ◌∙◌, Some, ap, length, rules, w64}
use Rattle.std.proofs.lemmas.Int.{to_z-of_z}
use Rattle.std.proofs.lemmas.List.{length-set}
use Rattle.std.specs.Prelude.{FitsSigned}
use Rattle.spf_core.proofs.Feet.{copy_more}
use Rattle.spf_core.proofs.foot.copy_foot.Goals as goal

pub loop-touch-preserved : goal.loop-touch-preserved
loop-touch-preserved c =
    let fits : FitsSigned w64 c.first_value.result = search rules in
    let i = c.loop-touch.touch-index in
    let inside : c.loop-touch.touch-index < length c.args.foot.now = c.loop-touch-test.true in
    record {
      room = ap length c.put.ensures ∙ length-set _ _ _ ∙ c.loop-touch.invariant.room;
      values = copy_more c.args.foot.now c.requires.rising c.loop-touch.touch-index _ inside c.args.cells.now c.loop-touch.copied c.put.new.self _
          (rw c.loop-touch.invariant.room (c.requires.places c.loop-touch.touch-index _ inside)) c.put.ensures (ap Some (to_z-of_z w64 _ fits) ∙ c.first_value.ensures) c.loop-touch.invariant.values;
    }
