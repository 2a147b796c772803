use Rattle.std.proofs.Common.{◌∙◌, pos, ap₂, get_or, rules, refl, w64}
use Rattle.std.proofs.lemmas.Int.{to_z-of_z}
use Rattle.std.specs.Prelude.{FitsSigned}
use Rattle.spf_touch.specs.Blend.{blend}
use Rattle.spf_touch.specs.declared.class.Class.TheVariants.{Read}
use Rattle.spf_core.proofs.Feet.{class_read, merge_more}
use Rattle.spf_core.proofs.foot.merge_foot.Goals as goal

pub get-requires : goal.get-requires
get-requires c = c.requires.keys _ (class_read c.args.foot.now c.loop-touch.touch-index _ c.loop-touch-test.true)

pub loop-touch-preserved : goal.loop-touch-preserved
loop-touch-preserved c =
    let one : FitsSigned w64 c.blend-new.result = search rules in
    let two : FitsSigned w64 c.get.result = search rules in
    let old = get_or c.loop-touch.cells (get_or c.args.foot.now c.loop-touch.touch-index (record { element = 0; class = Read })).element (pos 0) in
    let three : FitsSigned w64 old = search rules in
    merge_more c.args.foot.now c.requires.rising c.loop-touch.touch-index _ c.loop-touch-test.true c.args.cells.now c.loop-touch.cells _ c.args.copied.now _
    (rw c.loop-touch.auto.cells (c.requires.places c.loop-touch.touch-index _ c.loop-touch-test.true)) refl
    (to_z-of_z w64 _ one ∙ c.blend-new.ensures ∙ ap₂ (blend _) (to_z-of_z w64 old three) (to_z-of_z w64 _ two ∙ c.get.ensures)) c.loop-touch.invariant
