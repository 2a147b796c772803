use Rattle.std.proofs.Common.{◌++◌, ℤ, ◌*ℤ◌, map, ap, ◌∙◌, rules, w64, to_z, of_z}
use Rattle.std.proofs.lemmas.Int.{to_z-of_z}
use Rattle.std.proofs.lemmas.List.{take_all}
use Rattle.std.specs.Int.{w128}
use Rattle.spf_term.specs.Wide.{plain_mono}
use Rattle.spf_term.specs.declared.term.Term.{out-Term}
use Rattle.spf_term.proofs.Rule.{keeps_at}
use Rattle.spf_term.proofs.Substituted.{normal_product, products_are}
use Rattle.spf_term.proofs.Wides.{one_more}
use Rattle.spf_term.proofs.substitution.push_scaled.Goals as goal

pub normal_wide_atom-requires : goal.normal_wide_atom-requires
normal_wide_atom-requires c =
    keeps_at c.args.by.now c.requires c.as_slice-mono-items.result.now c.as_slice-mono-items.ensures c.loop-mono.mono-index c.mono-item.result c.loop-mono-test.true c.mono-item.is

pub loop-mono-preserved : goal.loop-mono-preserved
loop-mono-preserved c =
    let wide = to_z-of_z w128 c.product.result (search rules) in
    let right = to_z-of_z w64 c.mono-item.result.coef (search rules) in
    let factor = to_z w64 (of_z w64 c.args.factor) in
    one_more (map plain_mono c.args.monos.now.items) (normal_product factor) c.as_slice-mono-items.result.now c.loop-mono.mono-index c.mono-item.result c.loop-mono-test.true c.mono-item.is c.loop-mono.monos.items c.push.new.self.items _ c.in_ok-push.ensures.items
    (λ i. record { coef = (wide ∙ c.product.ensures ∙ ap (λ (of : ℤ). factor *ℤ of) right) i; atom = c.in_ok-atom.ensures i }) c.loop-mono.invariant

pub returns : goal.returns
returns c =
    let left = to_z-of_z w64 c.args.factor (search rules) in
    let all = take_all c.loop-mono.mono-index c.as_slice-mono-items.result.now c.loop-mono-test.false ∙ c.as_slice-mono-items.ensures in
    c.loop-mono.invariant ∙ ap (λ of. map plain_mono c.args.monos.now.items ++ of) ((λ i. map (normal_product (left i)) (all i)) ∙ products_are c.args.factor (out-Term c.args.by.now).monos)
