-- A factor times a term: its normal form, and a term in place of one of its variables.
use Rattle.std.proofs.Common.{◌≡◌, ℕ, ℤ, pos, negsuc, ◌+ℤ◌, ◌*ℤ◌, List, [], ◌∷◌, ◌++◌, Bool, true, false, if◌then◌else◌, map, refl, ap, sym, ◌∙◌, arith}
use Rattle.std.proofs.Math.IntN.{*ℤ-zero}
use Rattle.std.proofs.lemmas.Int.{ints}
use Rattle.std.proofs.lemmas.List.{map-append}
use Rattle.spf_term.specs.Normal.{all_added, normal, normal_atom, normal_mono}
use Rattle.spf_term.specs.Solution.{times}
use Rattle.spf_term.specs.Substitution.{is_variable, scaled, substituted, substituted_atom}
use Rattle.spf_term.specs.declared.term.Atom.{Atom}
use Rattle.spf_term.specs.declared.term.Mono.{Mono}
use Rattle.spf_term.specs.declared.term.Term.{Term, out-Term}
use Rattle.spf_term.proofs.Confluent.{normal_constant_is, normal_monos_are, weighed_normal}
use Rattle.spf_term.proofs.NormalForms.{each_normal, normal_term_is}
use Rattle.spf_term.proofs.Signs.{IsUnit, scaled_normal}
use Rattle.spf_term.proofs.Solved.{times_minus, times_one}
use Rattle.spf_term.proofs.Substituted.{constant_of, constants, part, parts, scaled_weighed, substituted_is}
use Rattle.spf_term.proofs.Unique.{added_up, all_normal, all_weighed}
use Rattle.spf_term.proofs.Weights.{grouped, spread_right}
use Rattle.spf_term.proofs.Wides.{out_constant, out_monos, sum_of}

-- ---- factors one after another

pub twice : (factor other : ℤ) (monos : List Mono) → scaled factor (scaled other monos) ≡ scaled (factor *ℤ other) monos
twice factor other [] = refl
twice factor other (mono ∷ monos) = λ i. record { coef = sym (grouped factor other mono.coef) i; atom = mono.atom } ∷ twice factor other monos i

pub once : (monos : List Mono) → scaled (pos 1) monos ≡ monos
once [] = refl
once (mono ∷ monos) = λ i. record { coef = times_one mono.coef i; atom = mono.atom } ∷ once monos i

pub opposite : (number : ℤ) → negsuc 0 *ℤ (negsuc 0 *ℤ number) ≡ number
opposite number = let a = times_minus number in let b = times_minus (negsuc 0 *ℤ number) in omega (arith, ints, a, b)

pub opposites : (monos : List Mono) → scaled (negsuc 0) (scaled (negsuc 0) monos) ≡ monos
opposites [] = refl
opposites (mono ∷ monos) = λ i. record { coef = opposite mono.coef i; atom = mono.atom } ∷ opposites monos i

pub times_monos : (factor : ℤ) (term : Term) → (out-Term (times factor term)).monos ≡ scaled factor (out-Term term).monos
times_monos factor term = out_monos (scaled factor (out-Term term).monos) (factor *ℤ (out-Term term).constant)

pub times_constant : (factor : ℤ) (term : Term) → (out-Term (times factor term)).constant ≡ factor *ℤ (out-Term term).constant
times_constant factor term = out_constant (scaled factor (out-Term term).monos) (factor *ℤ (out-Term term).constant)

-- ---- normal forms

module _ (factor : ℤ) (unit : IsUnit factor) where
  pub scaled_added : (monos : List Mono) → all_added (map normal_mono (scaled factor monos)) ≡ scaled factor (all_added (map normal_mono monos))
  scaled_added monos =
      let made = all_added (map normal_mono monos) in
      sym (added_up (scaled factor made) (map normal_mono (scaled factor monos)) (scaled_normal factor made unit (all_normal (map normal_mono monos) (each_normal monos))) (each_normal (scaled factor monos))
      (λ weight.
      scaled_weighed weight factor made ∙ ap (λ (sum : ℤ). factor *ℤ sum) (all_weighed weight (map normal_mono monos) ∙ weighed_normal weight monos)
      ∙ sym (scaled_weighed (λ atom. weight (normal_atom atom)) factor monos) ∙ sym (weighed_normal weight (scaled factor monos))))

  pub times_normal_form : (term : Term) → normal (times factor term) ≡ times factor (normal term)
  times_normal_form term =
      normal_term_is (times factor term)
      ∙ (λ i. sum_of ((ap (λ monos. all_added (map normal_mono monos)) (times_monos factor term) ∙ scaled_added (out-Term term).monos ∙ ap (scaled factor) (sym (normal_monos_are term))) i)
      ((times_constant factor term ∙ ap (λ (constant : ℤ). factor *ℤ constant) (sym (normal_constant_is term))) i))

-- ---- substitution

module _ (var : ℕ) (by : Term) (factor : ℤ) where
  part_by : (is : Bool) (coef : ℤ) (atom : Atom)
      → (if is then scaled (factor *ℤ coef) (out-Term by).monos else record { coef = factor *ℤ coef; atom = substituted_atom var by atom } ∷ [])
      ≡ scaled factor (if is then scaled coef (out-Term by).monos else record { coef = coef; atom = substituted_atom var by atom } ∷ [])
  part_by true coef atom = sym (twice factor coef (out-Term by).monos)
  part_by false coef atom = refl

  pub scaled_parts : (monos : List Mono) → parts var by (scaled factor monos) ≡ scaled factor (parts var by monos)
  scaled_parts [] = refl
  scaled_parts (mono ∷ monos) =
      (λ i. part_by (is_variable var mono.atom) mono.coef mono.atom i ++ scaled_parts monos i)
      ∙ sym (map-append (λ (of : Mono). record { coef = factor *ℤ of.coef; atom = of.atom }) (part var by mono) (parts var by monos))

  constant_by : (is : Bool) (coef : ℤ) → (if is then (factor *ℤ coef) *ℤ (out-Term by).constant else pos 0) ≡ factor *ℤ (if is then coef *ℤ (out-Term by).constant else pos 0)
  constant_by true coef = grouped factor coef (out-Term by).constant
  constant_by false coef = sym (*ℤ-zero factor)

  pub scaled_constants : (monos : List Mono) → constants var by (scaled factor monos) ≡ factor *ℤ constants var by monos
  scaled_constants [] = sym (*ℤ-zero factor)
  scaled_constants (mono ∷ monos) =
      (λ i. constant_by (is_variable var mono.atom) mono.coef i +ℤ scaled_constants monos i) ∙ sym (spread_right factor (constant_of var by mono) (constants var by monos))

  pub times_substituted : (term : Term) → substituted var by (times factor term) ≡ times factor (substituted var by term)
  times_substituted term =
      let monos = (out-Term term).monos in
      let constant = (out-Term term).constant in
      let made = substituted_is var by term in
      substituted_is var by (times factor term)
      ∙ (λ i. sum_of (parts var by (times_monos factor term i)) (times_constant factor term i +ℤ constants var by (times_monos factor term i)))
      ∙ (λ i. sum_of (scaled_parts monos i) ((factor *ℤ constant) +ℤ scaled_constants monos i))
      ∙ ap (sum_of (scaled factor (parts var by monos))) (sym (spread_right factor constant (constants var by monos)))
      ∙ (λ i. sum_of (scaled factor (sym (out_monos (parts var by monos) (constant +ℤ constants var by monos)) i)) (factor *ℤ sym (out_constant (parts var by monos) (constant +ℤ constants var by monos)) i))
      ∙ ap (times factor) (sym made)
