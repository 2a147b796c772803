-- What a scan of units finds.
use Rattle.std.proofs.Common.{◌≡◌, ℕ, ◌+◌, ◌<◌, ◌≤◌, true, Option, Some, None, List, length, get_or, inl, inr, subst, arith}
use Rattle.std.proofs.lemmas.Bool.{cases_lt}
use Rattle.std.specs.List.{AllPairs}
use Rattle.spf_touch.specs.Ordered.{is_in}
use Rattle.spf_layers.specs.Legality.{IsFirst}
use Rattle.spf_touch.proofs.Members.{in_at, place_in}
use Rattle.spf_legal.specs.Falling.{FallsBetween, IsFirstBelow, IsLastAbove}

module _ (number : ℕ → ℕ) (us : List ℕ) where
  -- what holds of each place holds of each unit
  pub of_all : (P : ℕ → Type 0) → ((k : ℕ) → k < length us → P (get_or us k 0)) → (u : ℕ) → is_in us u ≡ true → P u
  of_all P each u h = let at = place_in us u h in subst P (at.2 0) (each at.0 at.1)

  module _ (ascending : AllPairs (λ (u v : ℕ). u < v) us) where
    pub found_first : (bound k : ℕ) → k < length us → ((j : ℕ) → j < k → bound ≤ number (get_or us j 0)) → number (get_or us k 0) < bound → IsFirstBelow number bound us (Some (get_or us k 0))
    found_first bound k inside before below = (
      in_at us k 0 inside,
      below,
      of_all (λ u. number u < bound → get_or us k 0 ≤ u) (λ j in' low. elim (cases_lt j k) [
        | inl less ↦ absurd (omega (arith, before j less))
        | inr more ↦ elim (cases_lt k j) [
          | inl lt ↦ omega (arith, ascending k j 0 lt in')
          | inr le ↦ let same : j ≡ k = omega arith in rw same (omega arith)
        ]
      ]),
    )

  abbrev pub IsLastTo : ℕ → ℕ → Option ℕ → Type 0
  IsLastTo bound k None = (j : ℕ) → j < k → number (get_or us j 0) ≤ bound
  IsLastTo bound k (Some p) = (is_in us p ≡ true) × (bound < number p) × ((j : ℕ) → j < k → bound < number (get_or us j 0) → get_or us j 0 ≤ p)

  pub last_kept : (bound k : ℕ) (last : Option ℕ) → number (get_or us k 0) ≤ bound → IsLastTo bound k last → IsLastTo bound (k + 1) last
  last_kept bound k None low none = λ j lt. elim (cases_lt j k) [
    | inl less ↦ none j less
    | inr more ↦ let same : j ≡ k = omega arith in rw same low
  ]
  last_kept bound k (Some p) low last = (
    last.0,
    last.1,
    λ j lt above. elim (cases_lt j k) [
      | inl less ↦ last.2 j less above
      | inr more ↦ let same : j ≡ k = omega arith in let high = rw same at above in absurd (omega arith)
    ],
  )

  pub last_taken : AllPairs (λ (u v : ℕ). u < v) us → (bound k : ℕ) → k < length us → bound < number (get_or us k 0) → IsLastTo bound (k + 1) (Some (get_or us k 0))
  last_taken ascending bound k inside above = (
    in_at us k 0 inside,
    above,
    λ j lt high. elim (cases_lt j k) [
      | inl less ↦ omega (arith, ascending j k 0 less inside)
      | inr more ↦ let same : j ≡ k = omega arith in rw same (omega arith)
    ],
  )

  pub last_done : (bound k : ℕ) (last : Option ℕ) → length us ≤ k → IsLastTo bound k last → IsLastAbove number bound us last
  last_done bound k None past none = of_all (λ u. number u ≤ bound) (λ j lt. none j (omega arith))
  last_done bound k (Some p) past last = (last.0, last.1, of_all (λ u. bound < number u → u ≤ p) (λ j lt. last.2 j (omega arith)))

-- the first pair that falls, from the greatest number before, the first unit below it, and the last one above that
module _ (number : ℕ → ℕ) (before after : List ℕ) (greatest : ℕ) (bound : (u : ℕ) → is_in before u ≡ true → number u ≤ greatest)
    (some : 0 < greatest → (u : ℕ) × (is_in before u ≡ true) × (number u ≡ greatest)) where
  pub none_falls : IsFirstBelow number greatest after None → IsFirst (FallsBetween number before after) None
  none_falls none p q pair = let low = pair.falls in omega (arith, none q pair.there, bound p pair.here)

  pub some_above : (q : ℕ) → IsFirstBelow number greatest after (Some q) → IsLastAbove number (number q) before None → ⊥
  some_above q first none = let low = first.1 in let top = some (omega arith) in omega (arith, none top.0 top.1, top.2)

  pub pair_falls : (p q : ℕ) → IsFirstBelow number greatest after (Some q) → IsLastAbove number (number q) before (Some p) → IsFirst (FallsBetween number before after) (Some (p, q))
  pair_falls p q first last = record {
    there = record { here = last.0; there = first.0; falls = last.1 };
    least = λ a b pair. let low = pair.falls in first.2 b pair.there (omega (arith, bound a pair.here));
    greatest = λ a pair. last.2 a pair.here pair.falls;
  }
