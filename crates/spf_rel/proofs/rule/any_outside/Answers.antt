use Rattle.std.proofs.Common.{Some, ap, sym, ◌∙◌, rules, w64}
use Rattle.std.proofs.lemmas.Int.{to_z-of_z}
use Rattle.spf_term.specs.NumberRule.{numbers}
use Rattle.spf_rel.proofs.Together.{found_now, none_more}
use Rattle.spf_rel.proofs.rule.any_outside.Goals as goal

pub returns-in-Some : goal.returns-in-Some
returns-in-Some c =
    ap Some (to_z-of_z w64 c.in-Some.number (search rules))
    ∙ sym (found_now numbers c.args.terms.now c.loop-term.term-index c.term-item.result c.loop-term-test.true c.term-item.is c.in-Some.number c.loop-term.invariant (sym c.in-Some.ensures))

pub loop-term-preserved : goal.loop-term-preserved
loop-term-preserved c =
    none_more numbers c.args.terms.now c.loop-term.term-index c.term-item.result c.loop-term-test.true c.term-item.is c.loop-term.invariant (sym c.first_outside.ensures ∙ c.in_default.is)
