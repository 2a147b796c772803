-- The order of lists of numbers, and of positions by their keys.
use Rattle.std.proofs.Common.{◌≡◌, ℕ, zero, suc, ◌+◌, ◌<◌, inl, inr, List, [], ◌∷◌, length, false, refl, sym, ap, ◌∙◌, subst, arith}
use Rattle.std.specs.Cmp.Lexicographic.{slice_cmp}
use Rattle.std.specs.Ordering.{MatchOrdering, is_lt, nat_cmp}
use Rattle.std.specs.declared.cmp.Ordering.{Ordering}
use Rattle.std.specs.declared.cmp.Ordering.TheVariants.{Less, Equal, Greater}
use Rattle.std.proofs.lemmas.Bool.{cases_order}
use Rattle.std.proofs.lemmas.Bool.Decides.{nat_tests}
use Rattle.spf_perm.specs.Perm.{at}
use Rattle.spf_group.specs.Ordered.{ComesBefore, IsBefore}

lifted : {P Q R P' Q' R' : Type 0} (o : Ordering) → (P → P') → (Q → Q') → (R → R') → MatchOrdering o P Q R → MatchOrdering o P' Q' R'
lifted Less p q r h = p h
lifted Equal p q r h = q h
lifted Greater p q r h = r h

-- std's comparison of lists is this order
pub compared : (xs ys : List ℕ) → MatchOrdering (slice_cmp nat_cmp xs ys) (IsBefore xs ys) (xs ≡ ys) (IsBefore ys xs)
compared [] [] = refl
compared [] (y ∷ ys) = tt
compared (x ∷ xs) [] = tt
compared (x ∷ xs) (y ∷ ys) = elim (cases_order x y) as (λ _. MatchOrdering (slice_cmp nat_cmp (x ∷ xs) (y ∷ ys)) (IsBefore (x ∷ xs) (y ∷ ys)) ((x ∷ xs) ≡ (y ∷ ys)) (IsBefore (y ∷ ys) (x ∷ xs))) [
  | inl same ↦
      let e : nat_cmp x y ≡ Equal = grind (arith, nat_tests) in
      rw e (lifted (slice_cmp nat_cmp xs ys) (λ h. inr (same, h)) (λ h. ap (λ (n : ℕ). n ∷ xs) same ∙ ap (λ (l : List ℕ). y ∷ l) h) (λ h. inr (sym same, h)) (compared xs ys))
  | inr (inl lt) ↦ let e : nat_cmp x y ≡ Less = grind (arith, nat_tests) in rw e (inl lt)
  | inr (inr gt) ↦ let e : nat_cmp x y ≡ Greater = grind (arith, nat_tests) in rw e (inl gt)
]

pub before_trans : (xs ys zs : List ℕ) → IsBefore xs ys → IsBefore ys zs → IsBefore xs zs
before_trans xs ys [] a b = b
before_trans xs [] (z ∷ zs) a b = absurd a
before_trans [] (y ∷ ys) (z ∷ zs) a b = tt
before_trans (x ∷ xs) (y ∷ ys) (z ∷ zs) (inl a) (inl b) = inl (omega arith)
before_trans (x ∷ xs) (y ∷ ys) (z ∷ zs) (inl a) (inr (e, b)) = inl (omega arith)
before_trans (x ∷ xs) (y ∷ ys) (z ∷ zs) (inr (e, a)) (inl b) = inl (omega arith)
before_trans (x ∷ xs) (y ∷ ys) (z ∷ zs) (inr (e, a)) (inr (f, b)) = inr (e ∙ f, before_trans xs ys zs a b)

pub before_irrefl : (xs : List ℕ) → IsBefore xs xs → ⊥
before_irrefl [] a = a
before_irrefl (x ∷ xs) (inl a) = omega arith
before_irrefl (x ∷ xs) (inr (e, a)) = before_irrefl xs a

pub before_less : (xs ys : List ℕ) → IsBefore xs ys → is_lt (slice_cmp nat_cmp xs ys) ≡ false → ⊥
before_less xs ys before test = by (slice_cmp nat_cmp xs ys) (compared xs ys) test
  where
    by : (o : Ordering) → MatchOrdering o (IsBefore xs ys) (xs ≡ ys) (IsBefore ys xs) → is_lt o ≡ false → ⊥
    by Less h t = cc
    by Equal h t = before_irrefl ys (subst (λ (l : List ℕ). IsBefore l ys) h before)
    by Greater h t = before_irrefl xs (before_trans xs ys xs before h)

module _ (key : ℕ → List ℕ) (old : List ℕ) where
  pub comes_trans : (i j k : ℕ) → ComesBefore key old i j → ComesBefore key old j k → ComesBefore key old i k
  comes_trans i j k (inl a) (inl b) = inl (before_trans (key i) (key j) (key k) a b)
  comes_trans i j k (inl a) (inr (e, b)) = inl (rw e at a)
  comes_trans i j k (inr (e, a)) (inl b) = inl (rw e b)
  comes_trans i j k (inr (e, a)) (inr (f, b)) = inr (e ∙ f, omega arith)

  pub comes_irrefl : (i : ℕ) → ComesBefore key old i i → ⊥
  comes_irrefl i (inl a) = before_irrefl (key i) a
  comes_irrefl i (inr (e, a)) = omega arith

  -- where each position comes before the next one, each comes before all later ones
  pub climbs : (list : List ℕ) → ((k : ℕ) → k + 1 < length list → ComesBefore key old (at list k) (at list (k + 1)))
      → (gap j : ℕ) → j + gap + 1 < length list → ComesBefore key old (at list j) (at list (j + gap + 1))
  climbs list next zero j lt = let e : j + 0 ≡ j = omega arith in rw e (next j (rw e at lt))
  climbs list next (suc gap) j lt =
      let e : j + suc gap ≡ j + gap + 1 = omega arith in
      rw e (comes_trans (at list j) (at list (j + gap + 1)) (at list (j + gap + 1 + 1)) (climbs list next gap j (omega arith)) (next (j + gap + 1) (rw e at lt)))
