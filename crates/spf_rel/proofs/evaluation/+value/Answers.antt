use Rattle.std.proofs.Common.{rules, w64, sym, ◌∙◌, subst}
use Rattle.std.proofs.lemmas.Int.{to_z-of_z}
use Rattle.std.specs.Int.{w128}
use Rattle.spf_term.specs.declared.term.Term.{out-Term, the_lemmas}
use Rattle.spf_rel.proofs.Evaluated.{Summing, begun, keeps_in, next}
use Rattle.spf_rel.proofs.evaluation.+value.Goals as goal

pub value-loop-mono-init : goal.value-loop-mono-init
value-loop-mono-init t c =
    let constant = to_z-of_z w128 c.from-sum.result (search rules) ∙ c.from-sum.ensures ∙ to_z-of_z w64 (out-Term c.args.term.now).constant (search rules) in
    subst (Summing c.args.env.now c.args.point.now c.args.term.now c.as_slice-mono-items.result.now 0) (sym constant)
    (begun c.args.env.now c.args.point.now c.requires.small c.args.term.now c.requires.keeps c.as_slice-mono-items.result.now c.as_slice-mono-items.ensures)

pub value-atom_value-requires : goal.value-atom_value-requires
value-atom_value-requires t c =
    let keeps = keeps_in c.args.env.now c.args.point.now c.requires.small c.args.term.now c.requires.keeps c.as_slice-mono-items.result.now c.as_slice-mono-items.ensures c.loop-mono.mono-index _ c.loop-mono.invariant c.mono-item.result c.loop-mono-test.true c.mono-item.is in
    search (rules, the_lemmas)

pub value-loop-mono-preserved : goal.value-loop-mono-preserved
value-loop-mono-preserved t c =
    let new = to_z-of_z w128 c.added-sum.result (search rules) in
    let coef = to_z-of_z w64 c.mono-item.result.coef (search rules) in
    let number = to_z-of_z w64 c.atom_value.result (search rules) in
    let told = c.added-sum.ensures in
    next c.args.env.now c.args.point.now c.requires.small c.args.term.now c.requires.keeps c.as_slice-mono-items.result.now c.as_slice-mono-items.ensures c.loop-mono.mono-index _ c.loop-mono.invariant c.mono-item.result c.loop-mono-test.true c.mono-item.is
    c.atom_value.result c.atom_value.ensures _ (cc)
