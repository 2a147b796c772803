-- What is added one after another.
use Rattle.std.proofs.Common.{◌≡◌, ℕ, ◌+◌, ◌<◌, ◌≤◌, ◌⊎◌, ◌↔◌, true, List, [], ◌∷◌, ◌++◌, length, get_or, inl, inr, sym, subst, arith}
use Rattle.std.proofs.lemmas.Bool.{cases_lt}
use Rattle.spf_touch.specs.Ordered.{is_in}
use Rattle.spf_core.proofs.Marks.{in_new, in_old, in_push}
use Rattle.spf_touch.proofs.Members.{in_at, place_in}
use Rattle.spf_tiles.specs.TileSets.{AreAdded}

-- after those of P those of Q, which are these and i
module _ (P Q : ℕ → Type 0) (i : ℕ) (cases : (k : ℕ) → Q k → P k ⊎ (k ≡ i)) (keep : (k : ℕ) → P k → Q k) (here : Q i) (R : ℕ → Type 0) (Old Mid New : Type 0) where
  pub grown_more : Mid ↔ (Old ⊎ ((k : ℕ) × P k × R k)) → New ↔ (Mid ⊎ R i) → New ↔ (Old ⊎ ((k : ℕ) × Q k × R k))
  grown_more first next = (
    λ h. elim (next.0 h) [
      | inl was ↦ elim (first.0 was) [ inl before ↦ inl before | inr (k, p, r) ↦ inr (k, keep k p, r) ]
      | inr r ↦ inr (i, here, r)
    ],
    λ h. next.1 (elim h [
      | inl before ↦ inl (first.1 (inl before))
      | inr (k, q, r) ↦ elim (cases k q) [ inl p ↦ inl (first.1 (inr (k, p, r))) | inr same ↦ inr (subst R same r) ]
    ]),
  )

-- after those below i those below i + 1
module _ (i : ℕ) (R : ℕ → Type 0) (Old Mid New : Type 0) where
  pub grown_below : Mid ↔ (Old ⊎ ((k : ℕ) × (k < i) × R k)) → New ↔ (Mid ⊎ R i) → New ↔ (Old ⊎ ((k : ℕ) × (k < i + 1) × R k))
  grown_below =
      grown_more (λ k. k < i) (λ k. k < i + 1) i (λ k lt. elim (cases_lt k i) [ inl less ↦ inl less | inr more ↦ inr (omega arith) ]) (λ k lt. omega arith) (omega arith) R Old Mid New

module _ (i : ℕ) (R : ℕ → Type 0) (Mid New : Type 0) where
  pub grown_first : Mid ↔ ((k : ℕ) × (k < i) × R k) → New ↔ (Mid ⊎ R i) → New ↔ ((k : ℕ) × (k < i + 1) × R k)
  grown_first first next = (
    λ h. elim (next.0 h) [ inl was ↦ (let r = first.0 was in (r.0, omega (arith, r.1), r.2)) | inr r ↦ (i, omega arith, r) ],
    λ h. next.1 (elim (cases_lt h.0 i) [ inl less ↦ inl (first.1 (h.0, less, h.2)) | inr more ↦ inr (let low = h.1 in subst R (omega arith) h.2) ]),
  )

-- nothing is added by what was there
pub kept : (Mid R : Type 0) → (R → Mid) → Mid ↔ (Mid ⊎ R)
kept Mid R there = (λ h. inl h, λ h. elim h [ inl was ↦ was | inr r ↦ there r ])

pub is_in_push : (xs : List ℕ) (x n : ℕ) → (is_in (xs ++ x ∷ []) n ≡ true) ↔ ((is_in xs n ≡ true) ⊎ (n ≡ x))
is_in_push xs x n = (in_push xs x n, λ h. elim h [ inl old' ↦ in_old xs x n old' | inr new' ↦ rw new' (in_new xs x) ])

-- what stands at some place stands in the list
pub listed : (xs : List ℕ) (i : ℕ) (R : ℕ → Type 0) → length xs ≤ i → i ≤ length xs → ((k : ℕ) × (k < i) × R (get_or xs k 0)) ↔ ((x : ℕ) × (is_in xs x ≡ true) × R x)
listed xs i R past inside = (
  λ h. (let low = h.1 in (get_or xs h.0 0, in_at xs h.0 0 (omega arith), h.2)),
  λ h. (let at = place_in xs h.0 h.1 in (at.0, omega (arith, at.1), subst R (sym (at.2 0)) h.2)),
)

pub grown_like : (Old New R S : Type 0) → R ↔ S → New ↔ (Old ⊎ R) → New ↔ (Old ⊎ S)
grown_like Old New R S same grown = (
  λ h. elim (grown.0 h) [ inl was ↦ inl was | inr r ↦ inr (same.0 r) ],
  λ h. grown.1 (elim h [ inl was ↦ inl was | inr s ↦ inr (same.1 s) ]),
)

pub added_like : (old new : List ℕ) (R S : ℕ → ℕ → Type 0) → ((c d : ℕ) → c < 1024 → R c d ↔ S c d) → AreAdded old new R → AreAdded old new S
added_like old new R S same all c d less = grown_like _ _ _ _ (same c d less) (all c d less)
