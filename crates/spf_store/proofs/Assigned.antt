-- Cells after a number was set.
use Rattle.std.proofs.Common.{◌≡◌, ℕ, ℤ, Bool, List, ap, sym, ◌∙◌, cond, eqb, inl, inr, refl}
use Rattle.std.proofs.lemmas.Bool.{cases_Bool, eqb-true}
use Rattle.spf_term.specs.Environment.{Environment}
use Rattle.spf_kernel.specs.declared.tree.Assign.{Assign}
use Rattle.spf_store.specs.Effect.{assigned, element, stored, value}
use Rattle.spf_store.specs.Done.{IsDone}

module _ (env : Environment) (starts : List ℕ) (assign : Assign) (variables : List ℤ) (values : ℕ → ℤ) where
  abbrev target : ℕ
  target = element env starts variables assign.array assign.sub

  abbrev made : ℤ → ℤ
  made old = stored assign.sign old (value env starts variables values assign.value)

  at_target : (e at : ℕ) (number : ℤ) → at ≡ target → number ≡ made (values at) → cond (eqb e at) number (values e) ≡ assigned env starts assign variables values e
  at_target e at number is same = elim (cases_Bool (eqb e at)) [
    | inl here ↦
        let there = ap (eqb e) (sym is) ∙ here in
        rw (here, there) (same ∙ ap (λ x. made (values x)) (sym (eqb-true e at here)))
    | inr other ↦
        let there = ap (eqb e) (sym is) ∙ other in
        rw (other, there) refl
  ]

pub set_is_done : {C : Type 0} (own : C → ℕ → Bool) (value_in : C → ℕ → ℤ) (kept : C → C → Type 0) (env : Environment) (starts : List ℕ) (assign : Assign) (variables : List ℤ)
    (before after : C) (at : ℕ) (number : ℤ) → at ≡ element env starts variables assign.array assign.sub →
    number ≡ stored assign.sign (value_in before at) (value env starts variables (value_in before) assign.value) →
    ((e : ℕ) → own after e ≡ own before e) → kept before after → ((e : ℕ) → value_in after e ≡ cond (eqb e at) number (value_in before e)) →
    IsDone own value_in kept (assigned env starts assign variables) before after
set_is_done own value_in kept env starts assign variables before after at number is same owns keeps sets = record {
  owns = owns;
  keeps = keeps;
  values = λ e. sets e ∙ at_target env starts assign variables (value_in before) e at number is same;
}
