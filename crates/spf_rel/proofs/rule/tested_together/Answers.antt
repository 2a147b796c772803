use Rattle.std.proofs.Common.{None, Some, map, ap, ◌∙◌}
use Rattle.std.specs.List.{find, flat_map}
use Rattle.spf_term.specs.NumberRule.{is_outside, numbers}
use Rattle.spf_term.specs.Wide.{plain}
use Rattle.spf_term.specs.declared.wide.WideTerm.{WideTerm}
use Rattle.spf_rel.specs.declared.relation.Conj.{Conj}
use Rattle.spf_rel.proofs.Together.{conj_refused, first_told, second_told, wide_count, wide_numbers}
use Rattle.spf_rel.proofs.rule.tested_together.Goals as goal

pub returns-in-Ok-all_narrowed : goal.returns-in-Ok-all_narrowed
returns-in-Ok-all_narrowed c =
    let is = wide_count c.args.equal.now c.args.least.now c.all_wide_monomials.result c.all_wide_monomials-2.result c.saturating_add-count.result c.all_wide_monomials.ensures c.all_wide_monomials-2.ensures c.saturating_add-count.ensures in (
      λ i. record { inner = c.args.inner; equal = c.in-Ok.ensures.0 i; least = c.in-Ok-all_narrowed.ensures.0 i },
      second_told (map plain c.args.equal.now) (map plain c.args.least.now) c.saturating_add-count.result is c.if-count-gt-MOST_MONOMIALS.false None
          (ap (find is_outside) (wide_numbers c.args.equal.now) ∙ c.in-Ok.ensures.1) (ap (find is_outside) (wide_numbers c.args.least.now) ∙ c.in-Ok-all_narrowed.ensures.1),
    )

pub returns-in-Err-all_narrowed : goal.returns-in-Err-all_narrowed
returns-in-Err-all_narrowed c =
    let is = wide_count c.args.equal.now c.args.least.now c.all_wide_monomials.result c.all_wide_monomials-2.result c.saturating_add-count.result c.all_wide_monomials.ensures c.all_wide_monomials-2.ensures c.saturating_add-count.ensures in
    let wanted : Conj = record { inner = c.args.inner; equal = map plain c.args.equal.now; least = map plain c.args.least.now } in
    conj_refused (flat_map (λ (term : WideTerm). numbers (plain term)) c.args.least.now) (map plain c.args.least.now) wanted c.in-Err-all_narrowed.fault
    (λ number found. second_told (map plain c.args.equal.now) (map plain c.args.least.now) c.saturating_add-count.result is c.if-count-gt-MOST_MONOMIALS.false (Some number)
    (ap (find is_outside) (wide_numbers c.args.equal.now) ∙ c.in-Ok.ensures.1) (ap (find is_outside) (wide_numbers c.args.least.now) ∙ found)) c.in-Err-all_narrowed.ensures

pub returns-in-Err : goal.returns-in-Err
returns-in-Err c =
    let is = wide_count c.args.equal.now c.args.least.now c.all_wide_monomials.result c.all_wide_monomials-2.result c.saturating_add-count.result c.all_wide_monomials.ensures c.all_wide_monomials-2.ensures c.saturating_add-count.ensures in
    let wanted : Conj = record { inner = c.args.inner; equal = map plain c.args.equal.now; least = map plain c.args.least.now } in
    conj_refused (flat_map (λ (term : WideTerm). numbers (plain term)) c.args.equal.now) (map plain c.args.equal.now) wanted c.in-Err.fault
    (λ number found. first_told (map plain c.args.equal.now) (map plain c.args.least.now) c.saturating_add-count.result is c.if-count-gt-MOST_MONOMIALS.false number (ap (find is_outside) (wide_numbers c.args.equal.now) ∙ found)) c.in-Err.ensures
