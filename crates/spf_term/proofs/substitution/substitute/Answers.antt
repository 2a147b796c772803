use Rattle.std.proofs.Common.{[], ◌∷◌, sym, ◌∙◌, subst}
use Rattle.spf_term.specs.Normal.{IsNormal, normal}
use Rattle.spf_term.specs.NumberRule.{IsTested, excess}
use Rattle.spf_term.specs.Substitution.{substituted}
use Rattle.spf_term.proofs.Confluent.{confluent}
use Rattle.spf_term.proofs.NormalForms.{normal_is}
use Rattle.spf_term.proofs.Rule.{only_test, passed}
use Rattle.spf_term.proofs.substitution.substitute.Goals as goal

pub substituted_form-requires-clause-normal : goal.substituted_form-requires-clause-normal
substituted_form-requires-clause-normal c = subst IsNormal (sym c.in-Ok.ensures.1) (normal_is c.args.term.now)

pub substituted_form-requires-clause-normal_by : goal.substituted_form-requires-clause-normal_by
substituted_form-requires-clause-normal_by c = subst IsNormal (sym c.in-Ok-normal_form.ensures.1) (normal_is c.args.by.now)

pub returns-in-Ok-normal_form : goal.returns-in-Ok-normal_form
returns-in-Ok-normal_form c =
    let term = c.args.term.now in
    let by = c.args.by.now in
    let wanted = normal (substituted c.args.var by term) in
    let same = (λ i. normal (substituted c.args.var (c.in-Ok-normal_form.ensures.1 i) (c.in-Ok.ensures.1 i))) ∙ confluent c.args.var by term in
    passed term (by ∷ normal term ∷ normal by ∷ wanted ∷ []) wanted c.substituted_form.result (sym c.excess.ensures ∙ c.in_default.is)
    (passed by (normal term ∷ normal by ∷ wanted ∷ []) wanted c.substituted_form.result (sym c.excess-2.ensures ∙ c.in_default-excess.is)
    (passed (normal term) (normal by ∷ wanted ∷ []) wanted c.substituted_form.result (only_test (excess (normal term)) c.in-Ok.ensures.0)
    (passed (normal by) (wanted ∷ []) wanted c.substituted_form.result (only_test (excess (normal by)) c.in-Ok-normal_form.ensures.0)
    (subst (λ of. IsTested (of ∷ []) of c.substituted_form.result) same c.substituted_form.ensures))))
