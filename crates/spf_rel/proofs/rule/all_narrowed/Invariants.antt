use Rattle.std.proofs.Common.{◌≡◌, None, map, take}
use Rattle.std.specs.List.{find, flat_map}
use Rattle.spf_term.specs.NumberRule.{is_outside, numbers}
use Rattle.spf_term.specs.Wide.{plain}
use Rattle.spf_term.specs.declared.wide.WideTerm.{WideTerm}
use Rattle.spf_rel.proofs.rule.all_narrowed.Given as goal

abbrev pub invariant-loop-term : goal.invariant-loop-term
invariant-loop-term l = record {
  made : l.made ≡ map plain (take l.term-index l.terms);
  none : find is_outside (flat_map (λ (term : WideTerm). numbers (plain term)) (take l.term-index l.terms)) ≡ None;
}
