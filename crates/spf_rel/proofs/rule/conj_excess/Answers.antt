use Rattle.std.proofs.Common.{◌++◌, None, Some, ap, sym, ◌∙◌, rules, w64}
use Rattle.std.proofs.lemmas.Int.{to_z-of_z}
use Rattle.std.specs.Int.{w128}
use Rattle.std.specs.List.{sum_by}
use Rattle.spf_term.specs.Bounded.{monomials}
use Rattle.spf_rel.specs.Rule.{excess_together}
use Rattle.spf_rel.proofs.Together.{count_is, first_told, second_told}
use Rattle.spf_rel.proofs.rule.conj_excess.Goals as goal

pub returns-in-Some : goal.returns-in-Some
returns-in-Some c =
    let equal = c.as_slice-equal.result.now in
    let least = c.as_slice-least.result.now in
    let is = count_is c.all_monomials.result c.all_monomials-2.result c.saturating_add-count.result (sum_by monomials equal) (sum_by monomials least) c.all_monomials.ensures c.all_monomials-2.ensures c.saturating_add-count.ensures in
    let number = to_z-of_z w128 c.from-in-Some.result (search rules) ∙ c.from-in-Some.ensures ∙ to_z-of_z w64 c.in-Some.number (search rules) in
    ap Some number ∙ sym (first_told equal least c.saturating_add-count.result is c.if-count-gt-MOST_MONOMIALS.false c.in-Some.number (sym c.in-Some.ensures))
    ∙ (λ i. excess_together (c.as_slice-equal.ensures i ++ c.as_slice-least.ensures i))

pub returns-in-Some-any_outside : goal.returns-in-Some-any_outside
returns-in-Some-any_outside c =
    let equal = c.as_slice-equal.result.now in
    let least = c.as_slice-least.result.now in
    let is = count_is c.all_monomials.result c.all_monomials-2.result c.saturating_add-count.result (sum_by monomials equal) (sum_by monomials least) c.all_monomials.ensures c.all_monomials-2.ensures c.saturating_add-count.ensures in
    let number = to_z-of_z w128 c.from-in-Some-any_outside.result (search rules) ∙ c.from-in-Some-any_outside.ensures ∙ to_z-of_z w64 c.in-Some-any_outside.number (search rules) in
    ap Some number
    ∙ sym (second_told equal least c.saturating_add-count.result is c.if-count-gt-MOST_MONOMIALS.false (Some c.in-Some-any_outside.number) (sym c.any_outside.ensures ∙ c.in_default.is) (sym c.in-Some-any_outside.ensures))
    ∙ (λ i. excess_together (c.as_slice-equal.ensures i ++ c.as_slice-least.ensures i))

pub returns-in-None : goal.returns-in-None
returns-in-None c =
    let equal = c.as_slice-equal.result.now in
    let least = c.as_slice-least.result.now in
    let is = count_is c.all_monomials.result c.all_monomials-2.result c.saturating_add-count.result (sum_by monomials equal) (sum_by monomials least) c.all_monomials.ensures c.all_monomials-2.ensures c.saturating_add-count.ensures in
    sym (second_told equal least c.saturating_add-count.result is c.if-count-gt-MOST_MONOMIALS.false None (sym c.any_outside.ensures ∙ c.in_default.is) (sym c.in-None.ensures))
    ∙ (λ i. excess_together (c.as_slice-equal.ensures i ++ c.as_slice-least.ensures i))
