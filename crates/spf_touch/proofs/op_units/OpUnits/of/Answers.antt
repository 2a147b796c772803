use Rattle.std.proofs.Common.{◌<◌, ◌≤◌, ◌^◌, length, map, vec_items, ◌∙◌, ap, arith}
use Rattle.std.proofs.lemmas.List.{take_all}
use Rattle.spf_touch.specs.Ops.{op_touches}
use Rattle.spf_touch.proofs.Rows.{all_noted}
use Rattle.spf_touch.proofs.op_units.OpUnits.of.Goals as goal

pub invariant_of-result : goal.invariant_of-result
invariant_of-result c =
    let past : length c.deref-ops-items.result.now ≤ c.loop-ops.ops-index = omega arith in
    let few : length c.args.units.items < 2 ^ 32 = rw (← c.deref-ops-items.ensures.value, c.deref-ops-items.ensures.len) c.requires.few in
    all_noted c.args.units.items c.loop-ops.touches.items few c.requires.short
    (c.loop-ops.invariant.same ∙ ap (map (λ ops. op_touches (vec_items ops))) (take_all _ _ past ∙ c.deref-ops-items.ensures.value))
