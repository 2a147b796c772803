use Rattle.std.proofs.Common.{[], ap, refl, ◌∙◌}
use Rattle.spf_space.specs.declared.shape.ArrayShape.{ArrayShape}
use Rattle.spf_plan.specs.Planned.{pack_of}
use Rattle.spf_top.specs.PlanText.{array_at, data_line}
use Rattle.spf_top.proofs.PlanTexts.{entry_of, grown}
use Rattle.spf_top.proofs.plan_text.push_arrays.Goals as goal

pub loop-index-preserved : goal.loop-index-preserved
loop-index-preserved c =
    let none : ArrayShape = record { name = []; start = 0; length = 0 } in
    let array = entry_of c.args.arrays.now c.args.arrays.now c.index-arrays-index.result none c.loop-index.index refl c.loop-index-test.true c.index-arrays-index.is in
    let pack = c.pack.ensures ∙ ap (pack_of c.args.plan.now) c.in_ok-number.ensures in
    grown (λ number. data_line (array_at c.args.arrays.now number) (pack_of c.args.plan.now number)) c.args.text.now.items c.loop-index.text.items c.push_data.new.text.items _ c.loop-index.index
    c.loop-index.invariant c.in_ok-push_data.ensures (λ i. data_line (array i) (pack i))
