-- There is but one simplification.
use Rattle.std.proofs.Common.{◌≡◌, ◌↔◌, inl, inr, ℕ, ℤ, List, [], ◌∷◌, Result, Ok, refl, ap, sym, ◌∙◌, subst}
use Rattle.std.proofs.lemmas.List.Elements.{All-contains, All-from_recursion}
use Rattle.std.specs.Cmp.{IsTotalOrder}
use Rattle.std.specs.List.{Contains, filter_map}
use Rattle.std.specs.Ordering.{ordering_reverse}
use Rattle.std.specs.declared.cmp.Ordering.{Ordering}
use Rattle.std.specs.declared.cmp.Ordering.TheVariants.{Less, Greater}
use Rattle.spf_term.specs.Order.{term_cmp}
use Rattle.spf_term.specs.declared.term.Term.{Term}
use Rattle.spf_rel.specs.Simplified.{AreTidy, IsAscending, IsOrdered, IsSimplification, IsTidy, all_solved, compacted, distinct, settled}
use Rattle.spf_rel.specs.declared.relation.Conj.{Conj}
use Rattle.spf_rel.proofs.Pairs.{cases, none, there_first, there_later}

same_done : (a b : List Conj) (first : Result (List Conj) ℤ) → first ≡ Ok a → first ≡ Ok b → a ≡ b
same_done a b first is also = cc

module _ (total : IsTotalOrder term_cmp) where
  both_ways : (a b : Term) → term_cmp a b ≡ Less → term_cmp b a ≡ Less → ⊥
  both_ways a b less other = let clash : Less ≡ Greater = sym less ∙ total.antisymm a b ∙ ap ordering_reverse other in cc

  above : (first : Term) (terms : List Term) → IsAscending (first ∷ terms) → (term : Term) → Contains terms term → term_cmp first term ≡ Less
  above first terms h term there = All-contains (λ (other : Term). term_cmp first other ≡ Less) terms term (All-from_recursion (λ (other : Term). term_cmp first other ≡ Less) terms h.0) there

  -- the first of each is in the other, and none is before it there
  same_first : (x y : Term) (a b : List Term) → IsAscending (x ∷ a) → IsAscending (y ∷ b) → Contains (y ∷ b) x → Contains (x ∷ a) y → x ≡ y
  same_first x y a b h k x_there y_there = elim (cases y x b x_there) [
    | inl same ↦ same
    | inr later ↦ elim (cases x y a y_there) [
      | inl same ↦ sym same
      | inr also ↦ absurd (both_ways x y (above x a h y also) (above y b k x later))
    ]
  ]

  later_of : (x y : Term) (a b : List Term) → IsAscending (x ∷ a) → x ≡ y → ((term : Term) → Contains (x ∷ a) term → Contains (y ∷ b) term) → (term : Term) → Contains a term → Contains b term
  later_of x y a b h same leads term there = elim (cases y term b (leads term (there_later x term a there))) [
    | inl first ↦ let less : term_cmp x x ≡ Less = subst (λ of. term_cmp x of ≡ Less) (first ∙ sym same) (above x a h term there) in absurd (both_ways x x less less)
    | inr later ↦ later
  ]

  same_lists : (a b : List Term) → IsAscending a → IsAscending b → ((term : Term) → Contains a term → Contains b term) → ((term : Term) → Contains b term → Contains a term) → a ≡ b
  same_lists [] [] h k leads back = refl
  same_lists [] (y ∷ b) h k leads back = none y (back y (there_first y b))
  same_lists (x ∷ a) [] h k leads back = none x (leads x (there_first x a))
  same_lists (x ∷ a) (y ∷ b) h k leads back =
      let same = same_first x y a b h k (leads x (there_first x a)) (back y (there_first y b)) in
      let others = same_lists a b h.1 k.1 (later_of x y a b h same leads) (later_of y x b a k (sym same) back) in
      λ i. same i ∷ others i

  same_ordered : (terms a b : List Term) → IsOrdered terms a → IsOrdered terms b → a ≡ b
  same_ordered terms a b h k =
      same_lists a b h.ascending k.ascending (λ term at. (k.alike term).0 ((h.alike term).1 at)) (λ term at. (h.alike term).0 ((k.alike term).1 at))

  same_tidy : (outer : ℕ) (conj a b : Conj) → IsTidy outer conj a → IsTidy outer conj b → a ≡ b
  same_tidy outer conj a b h k =
      let compact = compacted outer conj.inner conj in
      let equal = same_ordered compact.equal a.equal b.equal h.equal k.equal in
      let least = same_ordered compact.least a.least b.least h.least k.least in
      λ i. record { inner = (h.inner ∙ sym k.inner) i; equal = equal i; least = least i }

  all_same_tidy : (outer : ℕ) (conjs a b : List Conj) → AreTidy outer conjs a → AreTidy outer conjs b → a ≡ b
  all_same_tidy outer [] [] [] h k = refl
  all_same_tidy outer [] [] (other ∷ b) h k = absurd k
  all_same_tidy outer [] (made ∷ a) b h k = absurd h
  all_same_tidy outer (conj ∷ conjs) [] b h k = absurd h
  all_same_tidy outer (conj ∷ conjs) (made ∷ a) [] h k = absurd k
  all_same_tidy outer (conj ∷ conjs) (made ∷ a) (other ∷ b) h k =
      let first = same_tidy outer conj made other h.0 k.0 in
      let more = all_same_tidy outer conjs a b h.1 k.1 in
      λ i. first i ∷ more i

  pub same_simplification : (outer : ℕ) (conjs a b : List Conj) → IsSimplification outer conjs a → IsSimplification outer conjs b → a ≡ b
  same_simplification outer conjs a b h k =
      let done = same_done h.done k.done (all_solved outer conjs) h.solved k.solved in
      let tidy = all_same_tidy outer (filter_map settled k.done) h.distinct.tidy k.distinct.tidy (subst (λ of. AreTidy outer (filter_map settled of) h.distinct.tidy) done h.distinct.tidied) k.distinct.tidied in
      h.distinct.is ∙ ap (distinct []) tidy ∙ sym k.distinct.is
