use Rattle.std.proofs.Common.{rules, ℤ, ◌+ℤ◌, w64, ap, sym, ◌∙◌, cond, eqb}
use Rattle.std.proofs.lemmas.Int.{to_z-of_z}
use Rattle.spf_base.specs.Wrap.{wrap}
use Rattle.spf_touch.specs.Actions.{change}
use Rattle.spf_touch.specs.Ops.{action_of}
use Rattle.spf_touch.specs.declared.op.Op.{Op}
use Rattle.spf_touch.proofs.Performed.{gained}
use Rattle.spf_touch.proofs.perform.perform.Goals as goal

pub returns-in-Gain-clause-value : goal.returns-in-Gain-clause-value
returns-in-Gain-clause-value g c e =
    let values = g.C.Cells.value c.args.cells.now in
    let old = to_z-of_z w64 c.get-in-Gain.result (search rules) ∙ c.get-in-Gain.ensures in
    let more = to_z-of_z w64 c.get-in-Gain-2.result (search rules) ∙ c.get-in-Gain-2.ensures in
    let sum = to_z-of_z w64 c.wadd-sum-in-Gain.result (search rules) ∙ c.wadd-sum-in-Gain.ensures.value ∙ (λ i. wrap (old i +ℤ more i)) in
    c.set-in-Gain.ensures.value e ∙ ap (λ (z : ℤ). cond (eqb e c.in-Gain.to) z (values e)) sum
    ∙ gained c.in-Gain.to c.in-Gain.from values e ∙ ap (λ (op : Op). change (action_of op) values e) (sym c.in-Gain.is)
