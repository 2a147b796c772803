-- Facts of each view, as one view is put in place of another, or a view comes.
use Rattle.std.proofs.Common.{◌≡◌, ◌≢◌, ℕ, zero, suc, ◌+◌, ◌-◌, ◌<◌, ◌≤◌, ◌==◌, ◌⊎◌, inl, inr, ⊎_elim, false, List, [], ◌∷◌, ◌++◌, length, set, refl, sym, ap, ◌∙◌, subst, arith}
use Rattle.std.specs.List.{sum_by}
use Rattle.std.proofs.lemmas.Bool.Decides.{nat_tests}
use Rattle.std.proofs.lemmas.List.Sums.{sum_by-cons}
use mathlib.Core.Logic.{dite}
use mathlib.Core.Option.{some, some-injective, some-ne-none}
use native.Mathlib.Decide.{ℕ_discrete}
use lib.ListN.{get_elem?}
use Rattle.atomic_table.proofs.Lists.{at_set, set_here, set_else}
use Rattle.spf_turn.specs.Rule.{EachLive, SomeLive, IsSpent, represented}
use Rattle.spf_turn.specs.declared.view.View.{View}

module _ {A : Type 0} where
  pub at_below : (l : List A) (i : ℕ) (a : A) → get_elem? l i ≡ some a → i < length l
  at_below [] i a e = absurd (some-ne-none a (sym e))
  at_below (x ∷ xs) zero a e = omega arith
  at_below (x ∷ xs) (suc i) a e = omega (arith, at_below xs i a e)

  pub at_one : (l : List A) (i : ℕ) (a b : A) → get_elem? l i ≡ some a → get_elem? l i ≡ some b → a ≡ b
  at_one l i a b e f = some-injective a b (sym e ∙ f)

  -- what is in a list with one more is in the list, or is the last
  pub at_more : (l : List A) (a b : A) (j : ℕ) → get_elem? (l ++ a ∷ []) j ≡ some b → (get_elem? l j ≡ some b) ⊎ ((j ≡ length l) × (a ≡ b))
  at_more [] a b zero e = inr (refl, some-injective a b e)
  at_more [] a b (suc j) e = absurd (some-ne-none b (sym e))
  at_more (x ∷ xs) a b zero e = inl e
  at_more (x ∷ xs) a b (suc j) e = ⊎_elim inl (λ t. inr (ap suc t.0, t.1)) (at_more xs a b j e)

  pub sum_set : (f : A → ℕ) (l : List A) (i : ℕ) (a b : A) → get_elem? l i ≡ some a → sum_by f (set l i b) + f a ≡ sum_by f l + f b
  sum_set f [] i a b e = absurd (some-ne-none a (sym e))
  sum_set f (x ∷ xs) zero a b e = omega (arith, ap f (some-injective x a e), sum_by-cons f x xs, sum_by-cons f b xs)
  sum_set f (x ∷ xs) (suc i) a b e = omega (arith, sum_set f xs i a b e, sum_by-cons f x xs, sum_by-cons f x (set xs i b))

  pub sum_at : (f : A → ℕ) (l : List A) (i : ℕ) (a : A) → get_elem? l i ≡ some a → f a ≤ sum_by f l
  sum_at f [] i a e = absurd (some-ne-none a (sym e))
  sum_at f (x ∷ xs) zero a e = omega (arith, ap f (some-injective x a e), sum_by-cons f x xs)
  sum_at f (x ∷ xs) (suc i) a e = omega (arith, sum_at f xs i a e, sum_by-cons f x xs)

module _ {K E : Type 0} where
  -- a fact of each view that isn't spent, where the others keep theirs
  pub each_set : (views : List (View K E)) (id : ℕ) (w : View K E) (P Q : ℕ → View K E → Type 0) → EachLive views P
      → ((j : ℕ) (u : View K E) → j ≢ id → get_elem? views j ≡ some u → 1 ≤ u.number → P j u → Q j u) → (1 ≤ w.number → Q id w) → EachLive (set views id w) Q
  each_set views id w P Q each other here j u at live = ⊎_elim
      (λ t. let live' : 1 ≤ w.number = subst (λ (x : View K E). 1 ≤ x.number) (sym t.1) live in subst (λ (k : ℕ). Q k u) (sym t.0) (subst (λ (x : View K E). Q id x) t.1 (here live')))
      (λ t. other j u t.0 t.1 live (each j u t.1 live))
      (at_set views id j w u at)

  pub each_more : (views : List (View K E)) (w : View K E) (P Q : ℕ → View K E → Type 0) → EachLive views P
      → ((j : ℕ) (u : View K E) → get_elem? views j ≡ some u → 1 ≤ u.number → P j u → Q j u) → Q (length views) w → EachLive (views ++ w ∷ []) Q
  each_more views w P Q each old new j u at live = ⊎_elim
      (λ t. old j u t live (each j u t live))
      (λ t. subst (λ (k : ℕ). Q k u) (sym t.0) (subst (λ (x : View K E). Q (length views) x) t.1 new))
      (at_more views w u j at)

  -- some view that isn't spent, where the one that changes keeps the fact
  pub some_set : (views : List (View K E)) (id : ℕ) (v w : View K E) (P Q : View K E → Type 0) → get_elem? views id ≡ some v → 1 ≤ w.number
      → ((u : View K E) → P u → Q u) → (P v → Q w) → SomeLive views P → SomeLive (set views id w) Q
  some_set views id v w P Q at live other here h = let j = h.0 in let u = h.1 in dite (ℕ_discrete j id)
      (λ e. let is : u ≡ v = at_one views id u v (subst (λ (k : ℕ). get_elem? views k ≡ some u) e h.2) at in
      (id, w, set_here views id w (at_below views id v at), live, here (subst P is h.4)))
      (λ ne. (j, u, set_else views id j w ne ∙ h.2, h.3, other u h.4))

  pub spent_set : (views : List (View K E)) (id : ℕ) (v w : View K E) (number : ℕ) → get_elem? views id ≡ some v → 1 ≤ v.number → IsSpent views number → IsSpent (set views id w) number
  spent_set views id v w number at live h = dite (ℕ_discrete (number - 1) id)
      (λ e. let is : h.1 ≡ v = at_one views id h.1 v (subst (λ (k : ℕ). get_elem? views k ≡ some h.1) e h.2) at in absurd (omega (arith, ap (λ (x : View K E). x.number) is, h.3)))
      (λ ne. (h.0, h.1, set_else views id (number - 1) w ne ∙ h.2, h.3))

  -- what is spent was spent before, where the new view isn't
  pub was_spent : (views : List (View K E)) (id : ℕ) (w : View K E) (number : ℕ) → 1 ≤ w.number → IsSpent (set views id w) number → IsSpent views number
  was_spent views id w number live h = ⊎_elim
      (λ t. absurd (omega (arith, ap (λ (x : View K E). x.number) t.1, h.3)))
      (λ t. (h.0, h.1, t.1, h.3))
      (at_set views id (number - 1) w h.1 h.2)

  pub live_represented : (v : View K E) → 1 ≤ v.number → represented v ≡ 1 + length v.joined
  live_represented v live = let is : (v.number == 0) ≡ false = grind (arith, nat_tests) in rw is refl
