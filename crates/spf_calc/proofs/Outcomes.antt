-- What an operation gives, by what its operands give.
use Rattle.std.proofs.Common.{◌≡◌, true, List, Option, None, Some, Result, Ok, Err, sym, subst, ◌∙◌}
use Rattle.std.specs.Prelude.{IfOk, IfSome, IsSome}
use Rattle.std.specs.Option.{option_map}
use Rattle.spf_reltext.specs.declared.names.RelNames.{RelNames}
use Rattle.spf_reltext.specs.declared.rules.Shape.{Shape}
use Rattle.spf_calc.proofs.Equations.{gives_inverse, gives_two, kind_inverse, kind_two, limits_inverse, limits_two, uneven_inverse, uneven_two}
use Rattle.spf_calc.proofs.Operands.{fitting_is, operands_have, pairs_turn, turned_has}
use Rattle.spf_calc.proofs.Tests.{left_false, right_false}
use Rattle.spf_calc.specs.Evaluated.{IsFit, IsOutcome}
use Rattle.spf_calc.specs.Rules.{fitting, kind_of, turned}
use Rattle.spf_calc.specs.Values.{InverseBecomes, IsFormedValue, ResultBecomes, fits, inverted, shape_of}
use Rattle.spf_calc.specs.declared.raw.Operation.{Operation}
use Rattle.spf_calc.specs.declared.raw.RawExp.{RawExp}
use Rattle.spf_calc.specs.declared.raw.RawExp.TheVariants.{Inverse, Two}
use Rattle.spf_calc.specs.declared.value.Binding.{Binding}
use Rattle.spf_calc.specs.declared.value.Value.{Value}

-- a value has the shape of its expression
abbrev pub Has : Option Shape → Option Value → Type 0
Has kind outcome = IfSome outcome (λ value. Some (shape_of value) ≡ kind)

-- ---- inverses

module _ (bindings : List Binding) (inside : RawExp) where
  pub inside_fits : IsFit bindings (Inverse inside) → IsFit bindings inside
  inside_fits fit = record {
    even = sym (uneven_inverse inside) ∙ fit.even;
    limits = sym (limits_inverse inside) ∙ fit.limits;
    fits = turned_has (kind_of bindings inside) (subst IsSome (kind_inverse inside bindings) fit.fits);
  }

  pub pairs_have : IsFit bindings (Inverse inside) → (operand : Option Value) → Has (kind_of bindings inside) operand → IfSome operand (λ value. IsSome (inverted value))
  pairs_have fit None has = tt
  pairs_have fit (Some value) has =
      let IsTurned : Option Shape → Type 0 = λ kind. IsSome (turned kind) in
      pairs_turn value (subst IsTurned (sym has) (subst IsSome (kind_inverse inside bindings) fit.fits))

  inverse_shape : (operand outcome : Option Value) → InverseBecomes operand outcome → Has (kind_of bindings inside) operand → Has (turned (option_map shape_of operand)) outcome → Has (kind_of bindings (Inverse inside)) outcome
  inverse_shape operand None becomes has made = tt
  inverse_shape None (Some value) becomes has made = absurd cc
  inverse_shape (Some from) (Some value) becomes has made =
      let IsKind : Option Shape → Type 0 = λ kind. Some (shape_of value) ≡ turned kind in
      subst IsKind has made ∙ sym (kind_inverse inside bindings)

  inverse_outcome : (names : RelNames) (operand outcome : Option Value) → IsOutcome names bindings inside operand → InverseBecomes operand outcome → Has (turned (option_map shape_of operand)) outcome
      → IfSome outcome IsFormedValue → IsOutcome names bindings (Inverse inside) outcome
  inverse_outcome names operand outcome is becomes made formed = record {
    gives = gives_inverse inside names bindings operand outcome is.gives becomes;
    shape = inverse_shape operand outcome becomes is.shape made;
    formed = formed;
  }

  pub inverse_outcomes : {E : Type 0} (names : RelNames) (exp : RawExp) (operand : Option Value) (result : Result (Option Value) E) → exp ≡ Inverse inside → IsOutcome names bindings inside operand
      → IfOk result (InverseBecomes operand) → IfOk result (Has (turned (option_map shape_of operand))) → IfOk result (λ outcome. IfSome outcome IsFormedValue) → IfOk result (IsOutcome names bindings exp)
  inverse_outcomes names exp operand (Ok outcome) is of_operand becomes made formed =
      let Gives : RawExp → Type 0 = λ exp. IsOutcome names bindings exp outcome in
      subst Gives (sym is) (inverse_outcome names operand outcome of_operand becomes made formed)
  inverse_outcomes names exp operand (Err fault) is of_operand becomes made formed = tt

-- ---- operations on two operands

module _ (bindings : List Binding) (operation : Operation) (first second : RawExp) where
  fitting_has : IsFit bindings (Two operation first second) → IsSome (fitting operation (kind_of bindings first) (kind_of bindings second))
  fitting_has fit = subst IsSome (kind_two operation first second bindings) fit.fits

  pub first_fits : IsFit bindings (Two operation first second) → IsFit bindings first
  first_fits fit = record {
    even = left_false _ _ (sym (uneven_two operation first second) ∙ fit.even);
    limits = left_false _ _ (sym (limits_two operation first second) ∙ fit.limits);
    fits = (operands_have operation (kind_of bindings first) (kind_of bindings second) (fitting_has fit)).0;
  }

  pub second_fits : IsFit bindings (Two operation first second) → IsFit bindings second
  second_fits fit = record {
    even = right_false _ _ (sym (uneven_two operation first second) ∙ fit.even);
    limits = right_false _ _ (sym (limits_two operation first second) ∙ fit.limits);
    fits = (operands_have operation (kind_of bindings first) (kind_of bindings second) (fitting_has fit)).1;
  }

  pub operands_fit : IsFit bindings (Two operation first second) → (a b : Option Value) → Has (kind_of bindings first) a → Has (kind_of bindings second) b
      → IfSome a (λ v. IfSome b (λ w. fits operation (shape_of v) (shape_of w) ≡ true))
  operands_fit fit None b has_first has_second = tt
  operands_fit fit (Some v) None has_first has_second = tt
  operands_fit fit (Some v) (Some w) has_first has_second =
      let HasFirst : Option Shape → Type 0 = λ kind. IsSome (fitting operation kind (kind_of bindings second)) in
      let HasSecond : Option Shape → Type 0 = λ kind. IsSome (fitting operation (Some (shape_of v)) kind) in
      (fitting_is operation (shape_of v) (shape_of w) (subst HasSecond (sym has_second) (subst HasFirst (sym has_first) (fitting_has fit)))).0

  result_shape : (a b outcome : Option Value) → ResultBecomes operation a b outcome → Has (kind_of bindings first) a → Has (kind_of bindings second) b
      → Has (fitting operation (option_map shape_of a) (option_map shape_of b)) outcome → Has (kind_of bindings (Two operation first second)) outcome
  result_shape a b None becomes has_first has_second made = tt
  result_shape None b (Some value) becomes has_first has_second made = absurd cc
  result_shape (Some v) None (Some value) becomes has_first has_second made = absurd cc
  result_shape (Some v) (Some w) (Some value) becomes has_first has_second made =
      let IsFirst : Option Shape → Type 0 = λ kind. Some (shape_of value) ≡ fitting operation kind (Some (shape_of w)) in
      let IsSecond : Option Shape → Type 0 = λ kind. Some (shape_of value) ≡ fitting operation (kind_of bindings first) kind in
      subst IsSecond has_second (subst IsFirst has_first made) ∙ sym (kind_two operation first second bindings)

  result_outcome : (names : RelNames) (a b outcome : Option Value) → IsOutcome names bindings first a → IsOutcome names bindings second b → ResultBecomes operation a b outcome
      → Has (fitting operation (option_map shape_of a) (option_map shape_of b)) outcome → IfSome outcome IsFormedValue → IsOutcome names bindings (Two operation first second) outcome
  result_outcome names a b outcome is_first is_second becomes made formed = record {
    gives = gives_two operation first second names bindings a b outcome is_first.gives is_second.gives becomes;
    shape = result_shape a b outcome becomes is_first.shape is_second.shape made;
    formed = formed;
  }

  pub result_outcomes : {E : Type 0} (names : RelNames) (exp : RawExp) (a b : Option Value) (result : Result (Option Value) E) → exp ≡ Two operation first second
      → IsOutcome names bindings first a → IsOutcome names bindings second b
      → IfOk result (ResultBecomes operation a b) → IfOk result (Has (fitting operation (option_map shape_of a) (option_map shape_of b))) → IfOk result (λ outcome. IfSome outcome IsFormedValue)
      → IfOk result (IsOutcome names bindings exp)
  result_outcomes names exp a b (Ok outcome) is of_first of_second becomes made formed =
      let Gives : RawExp → Type 0 = λ exp. IsOutcome names bindings exp outcome in
      subst Gives (sym is) (result_outcome names a b outcome of_first of_second becomes made formed)
  result_outcomes names exp a b (Err fault) is of_first of_second becomes made formed = tt
