-- What a statement is that breaks none of rules 21 to 24.
use Rattle.std.proofs.Common.{◌≡◌, ℕ, ◌≤◌, Bool, true, false, nat_lt, if◌then◌else◌, List, Option, None, Some, refl}
use Rattle.std.specs.Prelude.{IsSome, not, ◌||◌}
use Rattle.std.proofs.lemmas.Bool.{ltb-false}
use Rattle.spf_calc.proofs.Tests.{left_false, right_false}
use Rattle.spf_calc.specs.Evaluated.{IsFit}
use Rattle.spf_calc.specs.Rules.{breaks_given, breaks_kinds, breaks_limits, breaks_names, exp_of, is_good, is_uneven, kind_of, least_rule}
use Rattle.spf_calc.specs.declared.raw.RawStatement.{RawStatement}
use Rattle.spf_reltext.specs.declared.rules.Shape.{Shape}
use Rattle.spf_calc.specs.declared.value.Binding.{Binding}

second_and_last : (a b c d : Bool) → ◌≡◌ {A = Option ℕ} (if a then Some 21 else if b then Some 22 else if c then Some 23 else if d then Some 24 else None) None → (b ≡ false) × (d ≡ false)
second_and_last true b c d e = absurd cc
second_and_last false true c d e = absurd cc
second_and_last false false true d e = absurd cc
second_and_last false false false true e = absurd cc
second_and_last false false false false e = (refl, refl)

not_false : (test : Bool) → not test ≡ false → test ≡ true
not_false true e = refl
not_false false e = absurd cc

good_has : (statement : RawStatement) (kind : Option Shape) → is_good statement kind ≡ true → IsSome kind
good_has statement None e = absurd cc
good_has statement (Some shape) e = refl

pub record IsKept (bindings : List Binding) (number : ℕ) (statement : RawStatement) : Type 0 where
  pub fit : IsFit bindings (exp_of statement)
  pub good : is_good statement (kind_of bindings (exp_of statement)) ≡ true
  pub early : number ≤ 32

pub kept : (bindings : List Binding) (number : ℕ) (statement : RawStatement) → least_rule bindings number statement ≡ None → IsKept bindings number statement
kept bindings number statement e =
    let both = second_and_last (breaks_given bindings statement) (breaks_kinds bindings statement) (breaks_names (exp_of statement)) (nat_lt 32 number || breaks_limits (exp_of statement)) e in
    let good = not_false (is_good statement (kind_of bindings (exp_of statement))) (right_false (is_uneven (exp_of statement)) _ both.0) in
    record {
      fit = record {
        even = left_false (is_uneven (exp_of statement)) _ both.0;
        limits = right_false (nat_lt 32 number) _ both.1;
        fits = good_has statement (kind_of bindings (exp_of statement)) good;
      };
      good = good;
      early = ltb-false 32 number (left_false (nat_lt 32 number) (breaks_limits (exp_of statement)) both.1);
    }
