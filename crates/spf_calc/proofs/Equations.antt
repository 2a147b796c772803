-- What the definitions say of an operation, by what they say of its operands.
use Rattle.std.proofs.Common.{◌≡◌, Bool, true, false, List, Option, refl, sym, ap, ◌∙◌}
use Rattle.std.specs.Prelude.{◌||◌}
use Rattle.spf_reltext.specs.declared.names.RelNames.{RelNames}
use Rattle.spf_reltext.specs.declared.rules.Shape.{Shape}
use Rattle.spf_calc.specs.Evaluated.{Gives, exp_names}
use Rattle.spf_calc.specs.Rules.{breaks_limits, breaks_names, fitting, is_uneven, kind_of, misses, turned}
use Rattle.spf_calc.specs.Values.{InverseBecomes, ResultBecomes}
use Rattle.spf_calc.specs.declared.raw.Operation.{Operation}
use Rattle.spf_calc.specs.declared.raw.RawExp.{RawExp}
use Rattle.spf_calc.specs.declared.raw.RawExp.TheVariants.{Inverse, Two}
use Rattle.spf_calc.specs.declared.value.Binding.{Binding}
use Rattle.spf_calc.specs.declared.value.Value.{Value}

-- ---- inverses

module _ (exp : RawExp) where
  pub names_inverse : (names : RelNames) → exp_names names (Inverse exp) ≡ exp_names names exp
  unfolding Rattle.spf_calc.specs.declared.raw.RawExp.TheBlock.hidden-the_row-RawExp-0 denote.Hole.Carrier.hidden
  names_inverse names = refl

  pub misses_inverse : (bindings : List Binding) → misses bindings (Inverse exp) ≡ misses bindings exp
  unfolding Rattle.spf_calc.specs.declared.raw.RawExp.TheBlock.hidden-the_row-RawExp-0 denote.Hole.Carrier.hidden
  misses_inverse bindings = refl

  pub kind_inverse : (bindings : List Binding) → kind_of bindings (Inverse exp) ≡ turned (kind_of bindings exp)
  unfolding Rattle.spf_calc.specs.declared.raw.RawExp.TheBlock.hidden-the_row-RawExp-0 denote.Hole.Carrier.hidden
  kind_inverse bindings = refl

  pub uneven_inverse : is_uneven (Inverse exp) ≡ is_uneven exp
  unfolding Rattle.spf_calc.specs.declared.raw.RawExp.TheBlock.hidden-the_row-RawExp-0 denote.Hole.Carrier.hidden
  uneven_inverse = refl

  pub repeats_inverse : breaks_names (Inverse exp) ≡ breaks_names exp
  unfolding Rattle.spf_calc.specs.declared.raw.RawExp.TheBlock.hidden-the_row-RawExp-0 denote.Hole.Carrier.hidden
  repeats_inverse = refl

  pub limits_inverse : breaks_limits (Inverse exp) ≡ breaks_limits exp
  unfolding Rattle.spf_calc.specs.declared.raw.RawExp.TheBlock.hidden-the_row-RawExp-0 denote.Hole.Carrier.hidden
  limits_inverse = refl

  pub gives_inverse : (names : RelNames) (bindings : List Binding) (inside outcome : Option Value) → Gives names bindings exp inside → InverseBecomes inside outcome → Gives names bindings (Inverse exp) outcome
  unfolding Rattle.spf_calc.specs.declared.raw.RawExp.TheBlock.hidden-the_row-RawExp-0 denote.Hole.Carrier.hidden
  gives_inverse names bindings inside outcome gives becomes = (inside, gives, becomes)

-- ---- operations on two operands

module _ (operation : Operation) (first second : RawExp) where
  pub names_two : (names : RelNames) → exp_names names (Two operation first second) ≡ exp_names (exp_names names first) second
  unfolding Rattle.spf_calc.specs.declared.raw.RawExp.TheBlock.hidden-the_row-RawExp-0 denote.Hole.Carrier.hidden
  names_two names = refl

  pub misses_two : (bindings : List Binding) → misses bindings (Two operation first second) ≡ (misses bindings first || misses bindings second)
  unfolding Rattle.spf_calc.specs.declared.raw.RawExp.TheBlock.hidden-the_row-RawExp-0 denote.Hole.Carrier.hidden
  misses_two bindings = refl

  pub kind_two : (bindings : List Binding) → kind_of bindings (Two operation first second) ≡ fitting operation (kind_of bindings first) (kind_of bindings second)
  unfolding Rattle.spf_calc.specs.declared.raw.RawExp.TheBlock.hidden-the_row-RawExp-0 denote.Hole.Carrier.hidden
  kind_two bindings = refl

  pub uneven_two : is_uneven (Two operation first second) ≡ (is_uneven first || is_uneven second)
  unfolding Rattle.spf_calc.specs.declared.raw.RawExp.TheBlock.hidden-the_row-RawExp-0 denote.Hole.Carrier.hidden
  uneven_two = refl

  pub repeats_two : breaks_names (Two operation first second) ≡ (breaks_names first || breaks_names second)
  unfolding Rattle.spf_calc.specs.declared.raw.RawExp.TheBlock.hidden-the_row-RawExp-0 denote.Hole.Carrier.hidden
  repeats_two = refl

  pub limits_two : breaks_limits (Two operation first second) ≡ (breaks_limits first || breaks_limits second)
  unfolding Rattle.spf_calc.specs.declared.raw.RawExp.TheBlock.hidden-the_row-RawExp-0 denote.Hole.Carrier.hidden
  limits_two = refl

  pub gives_two : (names : RelNames) (bindings : List Binding) (a b outcome : Option Value) → Gives names bindings first a → Gives names bindings second b → ResultBecomes operation a b outcome
      → Gives names bindings (Two operation first second) outcome
  unfolding Rattle.spf_calc.specs.declared.raw.RawExp.TheBlock.hidden-the_row-RawExp-0 denote.Hole.Carrier.hidden
  gives_two names bindings a b outcome from to becomes = (a, b, from, to, becomes)

-- ---- tests that hold of an operation where they hold of one of its operands

module _ (test : RawExp → Bool) (operation : Operation) (exp first second : RawExp) (is : exp ≡ Two operation first second) (two : test (Two operation first second) ≡ (test first || test second)) where
  -- the test of the first operand
  of_first : (result : Bool) (inside : RawExp) → inside ≡ first → result ≡ test inside → test exp ≡ (result || test second)
  of_first result inside same tested = ap test is ∙ two ∙ ap (λ (b : Bool). b || test second) (sym (tested ∙ ap test same))

  pub first_holds : (result : Bool) (inside : RawExp) → inside ≡ first → result ≡ test inside → result ≡ true → result ≡ test exp
  first_holds result inside same tested holds = holds ∙ sym (of_first result inside same tested ∙ ap (λ (b : Bool). b || test second) holds)

  pub second_decides : (left result : Bool) (inside other : RawExp) → inside ≡ first → left ≡ test inside → left ≡ false → other ≡ second → result ≡ test other → result ≡ test exp
  second_decides left result inside other same tested fails same_other decides =
      decides ∙ ap test same_other ∙ sym (of_first left inside same tested ∙ ap (λ (b : Bool). b || test second) fails)

-- ---- an operation by what its operands give

module _ (operation : Operation) (exp first second : RawExp) (is : exp ≡ Two operation first second) where
  pub names_by : (names between : RelNames) (left right : RawExp) → left ≡ first → right ≡ second → between ≡ exp_names names left → exp_names between right ≡ exp_names names exp
  names_by names between left right l r e =
      ap (λ (x : RelNames). exp_names x right) (e ∙ ap (exp_names names) l) ∙ ap (exp_names (exp_names names first)) r ∙ sym (ap (exp_names names) is ∙ names_two operation first second names)

  pub kind_by : (bindings : List Binding) (result a b : Option Shape) (left right : RawExp) → left ≡ first → right ≡ second → a ≡ kind_of bindings left → b ≡ kind_of bindings right
      → result ≡ fitting operation a b → result ≡ kind_of bindings exp
  kind_by bindings result a b left right l r e f g =
      g ∙ ap (λ (x : Option Shape). fitting operation x b) (e ∙ ap (kind_of bindings) l) ∙ ap (fitting operation (kind_of bindings first)) (f ∙ ap (kind_of bindings) r)
      ∙ sym (ap (kind_of bindings) is ∙ kind_two operation first second bindings)
