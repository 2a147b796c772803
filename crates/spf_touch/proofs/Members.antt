-- What stands in a list of numbers.
use Rattle.std.proofs.Common.{◌≡◌, ℕ, zero, suc, ◌<◌, Bool, true, ◌&&◌, ◌||◌, List, [], ◌∷◌, ◌++◌, length, get_or, filter, inl, inr, refl, sym, ap, eqb, arith}
use Rattle.std.specs.List.{AllPairs}
use Rattle.std.proofs.lemmas.Bool.{eq-eqb, eqb-true, or_cases, or_left, or_right}
use Rattle.std.proofs.lemmas.List.Folds.{list_any-append, list_any_at}
use Rattle.std.proofs.lemmas.Map.Views.{any-filter_same}
use Rattle.spf_touch.specs.Ordered.{is_in}

pub in_head : (x : ℕ) (xs : List ℕ) → is_in (x ∷ xs) x ≡ true
in_head x xs = or_left (eqb x x) (is_in xs x) (eq-eqb x x refl)

pub in_tail : (x : ℕ) (xs : List ℕ) (n : ℕ) → is_in xs n ≡ true → is_in (x ∷ xs) n ≡ true
in_tail x xs n h = or_right (eqb n x) (is_in xs n) h

pub in_append : (xs ys : List ℕ) (n : ℕ) → is_in (xs ++ ys) n ≡ (is_in xs n || is_in ys n)
in_append xs ys n = list_any-append (eqb n) xs ys

pub in_filter : (p : ℕ → Bool) (xs : List ℕ) (n : ℕ) → is_in (filter p xs) n ≡ (p n && is_in xs n)
in_filter p xs n = any-filter_same (eqb n) p (p n) (λ k same. ap p (sym (eqb-true n k same))) xs

pub in_at : (xs : List ℕ) (k d : ℕ) → k < length xs → is_in xs (get_or xs k d) ≡ true
in_at xs k d h = list_any_at (eqb (get_or xs k d)) xs k d h (eq-eqb (get_or xs k d) (get_or xs k d) refl)

pub place_in : (xs : List ℕ) (n : ℕ) → is_in xs n ≡ true → (k : ℕ) × (k < length xs) × ((d : ℕ) → get_or xs k d ≡ n)
place_in [] n h = cc
place_in (x ∷ xs) n h = elim (or_cases (eqb n x) (is_in xs n) h) [
  | inl here ↦ (0, omega arith, λ d. sym (eqb-true n x here))
  | inr later ↦ let rest = place_in xs n later in (suc rest.0, omega (arith, rest.1), rest.2)
]

-- a number that is related to all that stand in the list
pub pairs_cons : (R : ℕ → ℕ → Type 0) (x : ℕ) (xs : List ℕ) → ((n : ℕ) → is_in xs n ≡ true → R x n) → AllPairs R xs → AllPairs R (x ∷ xs)
pairs_cons R x xs first all zero zero d lt in' = absurd (omega arith)
pairs_cons R x xs first all zero (suc j) d lt in' = first (get_or xs j d) (in_at xs j d (omega arith))
pairs_cons R x xs first all (suc i) zero d lt in' = absurd (omega arith)
pairs_cons R x xs first all (suc i) (suc j) d lt in' = all i j d (omega arith) (omega arith)
