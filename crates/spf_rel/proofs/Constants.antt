-- Constant terms, by tests.
use Rattle.std.proofs.Common.{◌≡◌, ◌≢◌, ℕ, ◌+◌, ◌<◌, ℤ, pos, negsuc, ◌≤ℤ◌, ◌<ℤ◌, List, [], ◌∷◌, ◌++◌, Bool, true, false, if◌then◌else◌, cond, length, get_or, take, nat_eq, refl, ap, sym, ◌∙◌, arith, append-nil}
use Rattle.std.proofs.lemmas.Bool.Decides.{Decides-int_eq, nat_tests}
use Rattle.std.proofs.lemmas.Int.{ints}
use Rattle.std.proofs.lemmas.List.{take_more}
use Rattle.std.proofs.lemmas.List.Elements.{filter-append}
use Rattle.std.specs.List.{filter}
use Rattle.std.specs.Ordering.{int_eq}
use Rattle.spf_term.specs.Solution.{is_negative}
use Rattle.spf_term.specs.declared.term.Term.{Term, out-Term}
use Rattle.spf_rel.specs.Simplified.{has_monomials}

pub no_monomials : (term : Term) → length (out-Term term).monos ≡ 0 → has_monomials term ≡ false
no_monomials term is = let test : nat_eq (length (out-Term term).monos) 0 ≡ true = grind (arith, nat_tests) in ap (λ none. if none then false else true) test

pub some_monomials : (term : Term) → length (out-Term term).monos ≢ 0 → has_monomials term ≡ true
some_monomials term is = let test : nat_eq (length (out-Term term).monos) 0 ≡ false = grind (arith, nat_tests) in ap (λ none. if none then false else true) test

pub is_zero : (number : ℤ) → number ≡ pos 0 → int_eq number (pos 0) ≡ true
is_zero number is = (Decides-int_eq number (pos 0)).1 is

no_true : (test : Bool) → (test ≡ true → ⊥) → test ≡ false
no_true true h = absurd (h refl)
no_true false h = refl

pub not_zero : (number : ℤ) → number ≢ pos 0 → int_eq number (pos 0) ≡ false
not_zero number apart = no_true (int_eq number (pos 0)) (λ yes. apart ((Decides-int_eq number (pos 0)).0 yes))

pub below_zero : (number : ℤ) → number <ℤ pos 0 → is_negative number ≡ true
below_zero (pos number) h = absurd (omega (arith, ints, h))
below_zero (negsuc number) h = refl

pub not_below : (number : ℤ) → pos 0 ≤ℤ number → is_negative number ≡ false
not_below (pos number) h = refl
not_below (negsuc number) h = absurd (omega (arith, ints, h))

module _ (test : Term → Bool) (terms : List Term) (index : ℕ) (term : Term) (inside : index < length terms) (at : term ≡ get_or terms index term) where
  next : filter test (take (index + 1) terms) ≡ filter test (take index terms) ++ cond (test term) (term ∷ []) []
  next = ap (filter test) (take_more terms index term inside ∙ ap (λ (last : Term). take index terms ++ last ∷ []) (sym at)) ∙ filter-append test (take index terms) (term ∷ [])

  pub filter_with : test term ≡ true → filter test (take (index + 1) terms) ≡ filter test (take index terms) ++ term ∷ []
  filter_with is = next ∙ ap (λ here. filter test (take index terms) ++ cond here (term ∷ []) []) is

  pub filter_without : test term ≡ false → filter test (take (index + 1) terms) ≡ filter test (take index terms)
  filter_without is = next ∙ ap (λ here. filter test (take index terms) ++ cond here (term ∷ []) []) is ∙ append-nil (filter test (take index terms))
