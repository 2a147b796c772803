-- A conjunction of one equality, after steps 3 and 4 of simplification.
use Rattle.std.proofs.Common.{◌≡◌, ℕ, zero, suc, ◌+◌, ◌-◌, ◌<◌, ◌≤◌, ℤ, pos, List, [], ◌∷◌, true, false, if◌then◌else◌, cond, None, Some, length, nat_eq, refl, ap, sym, ◌∙◌, arith}
use Rattle.std.proofs.lemmas.Bool.Decides.{nat_tests}
use Rattle.std.proofs.lemmas.List.Elements.{All-cons, All-nil}
use Rattle.std.proofs.lemmas.Cmp.{tied_itself}
use Rattle.std.proofs.lemmas.List.Folds.{list_any_none}
use Rattle.std.specs.Cmp.{IsTotalOrder}
use Rattle.std.specs.List.{filter, list_any}
use Rattle.std.specs.Ordering.{int_eq}
use Rattle.std.specs.declared.cmp.Ordering.TheVariants.{Less, Equal}
use Rattle.spf_term.specs.Order.{term_cmp}
use Rattle.spf_term.specs.Solution.{mentions, solution_among}
use Rattle.spf_term.specs.declared.solutions.Solution.{Solution}
use Rattle.spf_term.specs.declared.term.Mono.{Mono}
use Rattle.spf_term.specs.declared.term.Term.{Term, out-Term}
use Rattle.spf_rel.specs.Renumbering.{Variables, moved}
use Rattle.spf_rel.specs.Simplified.{AreTidy, IsOrdered, IsTidy, closing, compacted, conj_mentions, has_monomials, is_false_equality, is_false_inequality, settled, without}
use Rattle.spf_rel.specs.declared.relation.Conj.{Conj}
use Rattle.spf_rel.proofs.Moved.{in_first}
use Rattle.spf_rel.proofs.Pairs.{none, single, there_first, there_later}
use Rattle.spf_rel.proofs.Replaced.{apart, renumbered_same}

abbrev pub conj_with : ℕ → List Term → Conj
conj_with inner equal = record { inner = inner; equal = equal; least = [] }

pub some_monos : (low high : ℕ) (constant : ℤ) (monos : List Mono) (found : Solution) → solution_among low high constant [] monos ≡ Some found → (if nat_eq (length monos) 0 then false else true) ≡ true
some_monos low high constant [] found is = cc
some_monos low high constant (mono ∷ monos) found is =
    let test : nat_eq (length (mono ∷ monos)) 0 ≡ false = grind (arith, nat_tests) in
    ap (λ none. if none then false else true) test

module _ (equality : Term) where
  pub settled_one : (inner : ℕ) → has_monomials equality ≡ true → settled (conj_with inner (equality ∷ [])) ≡ Some (conj_with inner (equality ∷ []))
  settled_one inner has =
      let holds : is_false_equality equality ≡ false = ap (λ some. if some then false else if int_eq (out-Term equality).constant (pos 0) then false else true) has in
      let none : list_any is_false_equality (equality ∷ []) ≡ false = list_any_none is_false_equality (equality ∷ []) (All-cons (λ (term : Term). is_false_equality term ≡ false) equality [] holds (All-nil (λ (term : Term). is_false_equality term ≡ false))) in
      let kept : filter has_monomials (equality ∷ []) ≡ equality ∷ [] = ap (λ test. cond test (equality ∷ []) []) has in
      ap (λ test. if test then None else if list_any is_false_inequality [] then None else Some (record { inner = inner; equal = filter has_monomials (equality ∷ []); least = filter has_monomials [] })) none
      ∙ ap (λ equal. Some (conj_with inner equal)) kept

  module _ (outer bound : ℕ) (below : bound ≤ outer) (is : Variables (λ number. number < bound) equality) where
    without_one : (further inner : ℕ) → further < inner → (if conj_mentions (outer + further) (conj_with inner (equality ∷ [])) then conj_with inner (equality ∷ []) else without (outer + further) (conj_with inner (equality ∷ []))) ≡ conj_with (inner - 1) (equality ∷ [])
    without_one further inner less =
        let none : mentions (outer + further) equality ≡ false = apart (λ number. number < bound) (outer + further) (λ under. omega (arith, under, below)) equality is in
        let no : list_any (mentions (outer + further)) (equality ∷ []) ≡ false = list_any_none (mentions (outer + further)) (equality ∷ []) (All-cons (λ (term : Term). mentions (outer + further) term ≡ false) equality [] none (All-nil (λ (term : Term). mentions (outer + further) term ≡ false))) in
        let same = renumbered_same (λ number. number < bound) (moved (closing (outer + further))) (λ number under. in_first (closing (outer + further)) number (omega (arith, under, below)) ∙ omega arith) equality is in
        ap (λ test. if (if test then true else list_any (mentions (outer + further)) []) then conj_with inner (equality ∷ []) else without (outer + further) (conj_with inner (equality ∷ []))) no
        ∙ ap (λ term. conj_with (inner - 1) (term ∷ [])) same

    pub compacted_one : (further inner : ℕ) → further ≤ inner → compacted outer further (conj_with inner (equality ∷ [])) ≡ conj_with (inner - further) (equality ∷ [])
    compacted_one zero inner less = let all : inner ≡ inner - 0 = omega arith in ap (λ count. conj_with count (equality ∷ [])) all
    compacted_one (suc further) inner less =
        let fewer : inner - 1 - further ≡ inner - suc further = omega arith in
        ap (compacted outer further) (without_one further inner (omega (arith, less))) ∙ compacted_one further (inner - 1) (omega (arith, less)) ∙ ap (λ count. conj_with count (equality ∷ [])) fewer

  pub ordered_one : IsTotalOrder term_cmp → (terms : List Term) → IsOrdered (equality ∷ []) terms → terms ≡ equality ∷ []
  ordered_one total [] ordered = none equality ((ordered.alike equality).0 (there_first equality []))
  ordered_one total (term ∷ []) ordered = ap (λ (of : Term). of ∷ []) (single equality term ((ordered.alike term).1 (there_first term [])))
  ordered_one total (term ∷ (other ∷ terms)) ordered =
      let first = single equality term ((ordered.alike term).1 (there_first term (other ∷ terms))) in
      let second = single equality other ((ordered.alike other).1 (there_later term other (other ∷ terms) (there_first other terms))) in
      let clash : Less ≡ Equal = sym ordered.ascending.0.0 ∙ (λ i. term_cmp (first i) (second i)) ∙ tied_itself total equality in
      cc

  pub ordered_none : (terms : List Term) → IsOrdered [] terms → terms ≡ []
  ordered_none [] ordered = refl
  ordered_none (term ∷ terms) ordered = none term ((ordered.alike term).1 (there_first term terms))

pub tidy_one : (outer : ℕ) (conj : Conj) (tidy : List Conj) → AreTidy outer (conj ∷ []) tidy → (made : Conj) × IsTidy outer conj made × (tidy ≡ made ∷ [])
tidy_one outer conj [] h = absurd h
tidy_one outer conj (made ∷ []) h = (made, h.0, refl)
tidy_one outer conj (made ∷ (other ∷ more)) h = absurd h.1
