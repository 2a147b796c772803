-- Performing the actions of events is their effect.
use Rattle.std.proofs.Common.{◌≡◌, ℕ, ◌==◌, ℤ, ◌+ℤ◌, ◌*ℤ◌, List, [], ◌∷◌, cond, refl, ap, sym, ◌∙◌}
use mathlib.Core.Path.{fun_ext}
use Rattle.spf_term.specs.Environment.{Environment}
use Rattle.spf_touch.specs.Actions.{change, performed}
use Rattle.spf_kernel.specs.declared.tree.Value.{Value, Value', Row_of-Prod, end_of-Prod, more_of-Prod, Row_of-Factor, end_of-Factor, more_of-Factor}
use Rattle.spf_kernel.specs.declared.tree.Factor.{Factor}
use Rattle.spf_kernel.specs.declared.tree.Factor.TheVariants as factor_is
use Rattle.spf_kernel.specs.declared.tree.Assign.{Assign}
use Rattle.spf_store.specs.Effect.{assigned, effect, element, fact_value, facts_value, prods_value, signed, stored, value}
use Rattle.spf_store.specs.Event.{Event, Turn, Bound, Read, Access, Store}
use Rattle.spf_store.specs.Actions.{actions_of, assign_action, fact_made, facts_made, prods_made, value_made}

module _ (env : Environment) (starts : List ℕ) where
  module _ (variables : List ℤ) (cells : ℕ → ℤ) where
    mutual
      value_is : (of : Value) → (value_made env starts variables of).value cells ≡ value env starts variables cells of
      value_is (Value' shape prods) = prods_are prods

      prods_are : {n : _} (row : Row_of-Prod n) → (prods_made env starts variables row).value cells ≡ prods_value env starts variables cells row
      prods_are end_of-Prod = refl
      prods_are (more_of-Prod minus shape facts others) =
          let first = facts_are facts in
          let rest = prods_are others in
          λ i. signed minus (first i) +ℤ rest i

      facts_are : {n : _} (row : Row_of-Factor n) → (facts_made env starts variables row).value cells ≡ facts_value env starts variables cells row
      facts_are end_of-Factor = refl
      facts_are (more_of-Factor fact others) =
          let first = fact_is fact in
          let rest = facts_are others in
          λ i. first i *ℤ rest i

      fact_is : (fact : Factor) → (fact_made env starts variables fact).value cells ≡ fact_value env starts variables cells fact
      fact_is (factor_is.Number number) = refl
      fact_is (factor_is.Paren inside) = value_is inside
      fact_is (factor_is.Param number) = refl
      fact_is (factor_is.Var number) = refl
      fact_is (factor_is.Index array sub) = refl
      fact_is (factor_is.Cell array sub) = refl

    assigned_is : (assign : Assign) (e : ℕ) → assigned env starts assign variables cells e ≡ change (assign_action env starts variables assign) cells e
    assigned_is assign e =
        ap (λ (z : ℤ). cond (e == element env starts variables assign.array assign.sub) (stored assign.sign (cells e) z) (cells e)) (sym (value_is assign.value))

  pub effect_is_performed : (events : List Event) (cells : ℕ → ℤ) → effect env starts events cells ≡ performed (actions_of env starts events) cells
  effect_is_performed [] cells = refl
  effect_is_performed (Turn ∷ events) cells = effect_is_performed events cells
  effect_is_performed (Bound site value ∷ events) cells = effect_is_performed events cells
  effect_is_performed (Read entry ∷ events) cells = effect_is_performed events cells
  effect_is_performed (Access site class array place ∷ events) cells = effect_is_performed events cells
  effect_is_performed (Store assign variables ∷ events) cells =
      ap (effect env starts events) (fun_ext (assigned_is variables cells assign))
      ∙ effect_is_performed events (change (assign_action env starts variables assign) cells)
