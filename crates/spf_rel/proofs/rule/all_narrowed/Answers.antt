use Rattle.std.proofs.Common.{[], ◌∷◌, ◌++◌, map, sym, ◌∙◌}
use Rattle.std.specs.List.{flat_map}
use Rattle.spf_term.specs.NumberRule.{numbers}
use Rattle.spf_term.specs.Wide.{plain}
use Rattle.spf_term.specs.declared.wide.WideTerm.{WideTerm}
use Rattle.spf_rel.proofs.Together.{found_now, map_next, none_more, refused}
use Rattle.spf_rel.proofs.rule.all_narrowed.Goals as goal

pub returns-in-Err : goal.returns-in-Err
returns-in-Err c =
    refused (numbers (plain c.term-item.result)) (flat_map (λ (term : WideTerm). numbers (plain term)) c.args.terms.now) (plain c.term-item.result) (map plain c.args.terms.now) c.in-Err.fault
    (λ number is. found_now (λ (term : WideTerm). numbers (plain term)) c.args.terms.now c.loop-term.term-index c.term-item.result c.loop-term-test.true c.term-item.is number c.loop-term.invariant.none is) c.in-Err.ensures

pub loop-term-preserved : goal.loop-term-preserved
loop-term-preserved c = record {
  made = c.in_ok-push-in-Ok.ensures.ok ∙ (λ i. c.loop-term.invariant.made i ++ c.in-Ok.ensures.0 i ∷ []) ∙ sym (map_next plain c.args.terms.now c.loop-term.term-index c.term-item.result c.loop-term-test.true c.term-item.is);
  none = none_more (λ (term : WideTerm). numbers (plain term)) c.args.terms.now c.loop-term.term-index c.term-item.result c.loop-term-test.true c.term-item.is c.loop-term.invariant.none c.in-Ok.ensures.1;
}
