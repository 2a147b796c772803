-- What a statement does whose expression is evaluated.
use Rattle.std.proofs.Common.{◌≡◌, true, List, Option, None, Some, Result, inl, inr, sym, subst}
use Rattle.std.specs.Prelude.{IfOk}
use Rattle.std.proofs.lemmas.Result.{IfOk-weaker}
use Rattle.spf_reltext.specs.declared.names.RelNames.{RelNames}
use Rattle.spf_reltext.specs.declared.rules.Shape.{Shape}
use Rattle.spf_calc.specs.Evaluated.{IsOutcome}
use Rattle.spf_calc.specs.Rules.{exp_of, is_good, kind_of}
use Rattle.spf_calc.specs.Situation.{Situation}
use Rattle.spf_calc.specs.Statements.{Leaves, Runs}
use Rattle.spf_calc.specs.Values.{shape_of}
use Rattle.spf_calc.specs.declared.raw.RawExp.{RawExp}
use Rattle.spf_calc.specs.declared.raw.RawStatement.{RawStatement}
use Rattle.spf_calc.specs.declared.value.Binding.{Binding}
use Rattle.spf_calc.specs.declared.value.Value.{Value}

module _ (names : RelNames) (state : Situation) (statement : RawStatement) (bindings : List Binding) (exp : RawExp) (outcome : Option Value) (bindings_are : bindings ≡ state.bindings) (exp_is : exp ≡ exp_of statement) (given : IsOutcome names bindings exp outcome) where
  of_statement : (found : Option Value) → outcome ≡ found → IsOutcome names state.bindings (exp_of statement) found
  of_statement found is =
      let OfBindings : List Binding → Type 0 = λ bindings. IsOutcome names bindings exp found in
      subst (λ (exp : RawExp). IsOutcome names state.bindings exp found) exp_is (subst OfBindings bindings_are (subst (IsOutcome names bindings exp) is given))

  pub value_is_good : (value : Value) → outcome ≡ Some value → is_good statement (kind_of state.bindings (exp_of statement)) ≡ true → is_good statement (Some (shape_of value)) ≡ true
  value_is_good value is good = subst (λ (kind : Option Shape). is_good statement kind ≡ true) (sym (of_statement (Some value) is).shape) good

  pub none_runs : outcome ≡ None → Runs names state statement None
  none_runs is = inl (of_statement None is).gives

  runs : (value : Value) → outcome ≡ Some value → (next : Option Situation) → Leaves names state statement value next → Runs names state statement next
  runs value is None leaves = inr (value, (of_statement (Some value) is).gives, leaves)
  runs value is (Some next) leaves = (value, (of_statement (Some value) is).gives, leaves)

  pub some_runs : {E : Type 0} (value : Value) → outcome ≡ Some value → (result : Result (Option Situation) E) → IfOk result (Leaves names state statement value) → IfOk result (Runs names state statement)
  some_runs value is result = IfOk-weaker result (Leaves names state statement value) (Runs names state statement) (runs value is)
