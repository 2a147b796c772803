-- How large the terms are that are composed of a kernel's index expressions.
use Rattle.std.proofs.Common.{◌≡◌, ℕ, ◌+◌, ◌*◌, ◌≤◌, ◌^◌, ◌-◌, [], ◌∷◌, sym, ◌∙◌, arith}
use Rattle.std.proofs.lemmas.Nat.{mul-le}
use Rattle.spf_term.specs.Bounded.{IsBounded, monomials}
use Rattle.spf_term.specs.Measure.{by_count, by_factor, by_size, factor, measured, size}
use Rattle.spf_term.specs.Normal.{normal}
use Rattle.spf_term.specs.Substitution.{substituted}
use Rattle.spf_term.specs.declared.term.Term.{Term}
use Rattle.spf_rel.specs.Graph.{IsWithinSize, StayLight, shifted}
use Rattle.spf_rel.proofs.Sized.{as_large}

pub record SizeLaws : Type 0 where
  pub normal_count : (term : Term) → monomials (normal term) ≤ monomials term
  pub normal_size : (term : Term) → size (normal term) ≤ size term
  pub normal_factor : (term : Term) → factor (normal term) ≤ factor term
  pub put_count : (var : ℕ) (by term : Term) → monomials (substituted var by term) ≤ monomials term + monomials term * monomials by
  pub put_size : (var : ℕ) (by term : Term) → size (substituted var by term) ≤ size term + factor term * size by
  pub put_factor : (var : ℕ) (by term : Term) → factor (substituted var by term) ≤ factor term + factor term * factor by
  pub counted : (term : Term) → measured by_count term ≡ monomials term
  pub bounded_size : (term : Term) → IsBounded term → size term ≤ 2 ^ 34 + 2 ^ 30
  pub bounded_factor : (term : Term) → IsBounded term → factor term ≤ 2 ^ 26

module _ (laws : SizeLaws) where
  pub bounded_within : (term : Term) → IsBounded term → IsWithinSize 64 (2 ^ 34 + 2 ^ 30) (2 ^ 26) term
  bounded_within term bounded = record { few = bounded.few; small = laws.bounded_size term bounded; light = laws.bounded_factor term bounded }

  module _ (start count size' factor' : ℕ) (term : Term) (h : IsWithinSize count size' factor' term) where
    pub shifted_within : IsWithinSize count size' factor' (shifted start term)
    shifted_within =
        let counts = sym (laws.counted (shifted start term)) ∙ as_large by_count (λ number. start + number) term ∙ laws.counted term in
        let sizes = as_large by_size (λ number. start + number) term in
        let factors = as_large by_factor (λ number. start + number) term in
        let few = h.few in
        let small = h.small in
        let light = h.light in
        record { few = omega (arith, counts, few); small = omega (arith, sizes, small); light = omega (arith, factors, light) }

  module _ (count size' factor' count' size'' factor'' : ℕ) (var : ℕ) (by term : Term) (h : IsWithinSize count size' factor' term) (k : IsWithinSize count' size'' factor'' by) where
    pub put_within : IsWithinSize (count + count * count') (size' + factor' * size'') (factor' + factor' * factor'') (substituted var (normal by) term)
    put_within =
        let counts = laws.put_count var (normal by) term in
        let sizes = laws.put_size var (normal by) term in
        let factors = laws.put_factor var (normal by) term in
        let few = h.few in
        let small = h.small in
        let light = h.light in
        let by_few = laws.normal_count by in
        let by_small = laws.normal_size by in
        let by_light = laws.normal_factor by in
        let few' = k.few in
        let small' = k.small in
        let light' = k.light in
        let product_count = mul-le (monomials term) (monomials (normal by)) count count' few (omega (arith, by_few, few')) in
        let product_size = mul-le (factor term) (size (normal by)) factor' size'' light (omega (arith, by_small, small')) in
        let product_factor = mul-le (factor term) (factor (normal by)) factor' factor'' light (omega (arith, by_light, light')) in
        record { few = omega (arith, counts, few, product_count); small = omega (arith, sizes, small, product_size); light = omega (arith, factors, light, product_factor) }

  -- the iteration and the inner variable in place of the variables of an index expression
  pub composed_light : (start : ℕ) (iteration inner term : Term) → IsWithinSize 65 (2 ^ 34 + 2 ^ 30 + 1) (2 ^ 26 + 1) iteration → IsWithinSize 1 1 1 inner → IsWithinSize 64 (2 ^ 34 + 2 ^ 30) (2 ^ 26) term → StayLight start (iteration ∷ inner ∷ []) (shifted start term)
  composed_light start iteration inner term h k within =
      let first = shifted_within start 64 (2 ^ 34 + 2 ^ 30) (2 ^ 26) term within in
      let second = put_within 64 (2 ^ 34 + 2 ^ 30) (2 ^ 26) 65 (2 ^ 34 + 2 ^ 30 + 1) (2 ^ 26 + 1) start iteration (shifted start term) first h in
      let third = put_within (64 + 64 * 65) (2 ^ 34 + 2 ^ 30 + 2 ^ 26 * (2 ^ 34 + 2 ^ 30 + 1)) (2 ^ 26 + 2 ^ 26 * (2 ^ 26 + 1)) 1 1 1 (start + 1) inner (substituted start (normal iteration) (shifted start term)) second k in
      let a = first.few in
      let a' = first.small in
      let b = second.few in
      let b' = second.small in
      let c = third.few in
      let c' = third.small in
      let d = h.few in
      let d' = h.small in
      let e = k.few in
      let e' = k.small in (
        record { few = omega (arith, a, d, e); small = (omega (arith, d'), (omega (arith, e'), (omega (arith, a'), tt))) },
        (record { few = omega (arith, e, b); small = (omega (arith, e'), (omega (arith, b'), tt)) }, record { few = omega (arith, c); small = (omega (arith, c'), tt) }),
      )

  -- a packing function of a composed term
  pub packed_light : (start : ℕ) (place packed : Term) → IsWithinSize 4224 (2 ^ 61 - 2) (2 ^ 61) place → IsWithinSize 2 2 2 packed → StayLight start (place ∷ []) (shifted start packed)
  packed_light start place packed h k =
      let first = shifted_within start 2 2 2 packed k in
      let second = put_within 2 2 2 4224 (2 ^ 61 - 2) (2 ^ 61) start place (shifted start packed) first h in
      let a = first.few in
      let a' = first.small in
      let b = second.few in
      let b' = second.small in
      let d = h.few in
      let d' = h.small in (
        record { few = omega (arith, a, d); small = (omega (arith, d'), (omega (arith, a'), tt)) },
        record { few = omega (arith, b); small = (omega (arith, b'), tt) },
      )
