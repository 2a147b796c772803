use Rattle.std.proofs.Common.{rules, w64, ◌∙◌}
use Rattle.std.proofs.lemmas.Int.{to_z-of_z}
use Rattle.spf_touch.specs.Blend.{blend}
use Rattle.spf_store.proofs.Assigned.{set_is_done}
use Rattle.spf_store.proofs.assigns.carry_out.Goals as goal

pub returns : goal.returns
returns g c =
    let class = c.target_class-class.ensures in
    let old = to_z-of_z w64 c.get-old.result (search rules) ∙ c.get-old.ensures in
    let new = to_z-of_z w64 c.value_of-value.result (search rules) ∙ c.value_of-value.ensures in
    let number = to_z-of_z w64 c.blend.result (search rules) ∙ c.blend.ensures ∙ (λ i. blend (class i) (old i) (new i)) in
    set_is_done g.C.Cells.own g.C.Cells.value g.C.Cells.kept c.args.env.now c.args.starts.now c.args.assign.now c.args.variables.now c.args.cells.now c.set.new.self
    c.element-target.result _ c.element-target.ensures number c.set.ensures.own c.set.ensures.kept c.set.ensures.value
