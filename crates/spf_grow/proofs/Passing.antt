-- One more unit in the passes.
use Rattle.std.proofs.Common.{◌≡◌, ℕ, ◌+◌, ◌-◌, ◌<◌, ◌≤◌, List, length, get_or, set, inl, inr, refl, sym, ap, subst, arith}
use Rattle.std.proofs.lemmas.Bool.{cases_eq, cases_lt}
use Rattle.std.proofs.lemmas.List.{get_or-set_other, get_or-set_same}
use Rattle.spf_touch.specs.declared.touch.Touch.{Touch}
use Rattle.spf_grow.specs.Bounds.{AreGreatest, HaveGreatest, HaveLeast, IsAbove, IsBound, IsNoted, depth_in}
use Rattle.spf_grow.specs.Growth.{Falls, seed_number}
use Rattle.spf_grow.specs.declared.extremes.Extremes.{Extremes}
use Rattle.spf_grow.proofs.Greatest.{bound_alike, bound_of, one_more}

abbrev pub number_at : List ℕ → ℕ → ℕ
number_at numbers u = get_or numbers u 0

pub set_other : (numbers : List ℕ) (unit n u : ℕ) → (u ≡ unit → ⊥) → number_at (set numbers unit n) u ≡ number_at numbers u
set_other numbers unit n u other = get_or-set_other numbers unit u n 0 other

module _ (touches : ℕ → List Touch) where
  -- with a unit behind the others
  pub noted_behind : (first unit : ℕ) (value : ℕ → ℕ) (bounds after : List Extremes) (n : ℕ) → first ≤ unit → value unit ≡ n → AreGreatest touches first unit value bounds →
      IsNoted bounds (touches unit) n after → AreGreatest touches first (unit + 1) value after
  noted_behind first unit value bounds after n low is old noted =
      one_more touches first unit value bounds old unit n first (unit + 1) value after noted low (omega arith) is
      (λ v low' high' other. (low', omega arith)) (λ v low' high'. (low', omega arith, refl))

  module _ (unit n : ℕ) (numbers : List ℕ) (bounds after : List Extremes) (inside : unit < length numbers) (above : IsAbove bounds (touches unit) n)
      (least : (x : ℕ) → IsAbove bounds (touches unit) x → n ≤ x) (noted : IsNoted bounds (touches unit) n after) where
    abbrev new : ℕ → ℕ
    new = number_at (set numbers unit n)

    pub least_more : (first from : ℕ) → first ≤ from → from ≤ unit → HaveLeast touches first from unit (number_at numbers) → AreGreatest touches first unit (number_at numbers) bounds →
        HaveLeast touches first from (unit + 1) new × AreGreatest touches first (unit + 1) new after
    least_more first from low low' have old =
        let here : new unit ≡ n = get_or-set_same numbers unit n 0 inside in
        let same : (v : ℕ) → v < unit → new v ≡ number_at numbers v = λ v lt. set_other numbers unit n v (λ e. omega arith) in (
          λ u low'' high. elim (cases_eq u unit) [
            | inl is ↦
                rw (is, here) (bound_alike touches first unit (number_at numbers) new unit n (λ v _ lt. same v lt) (bound_of touches first unit (number_at numbers) bounds old unit n above least))
            | inr other ↦
                rw (same u (omega arith))
                (bound_alike touches first u (number_at numbers) new u (number_at numbers u) (λ v _ lt. same v (omega arith)) (have u low'' (omega arith)))
          ],
          one_more touches first unit (number_at numbers) bounds old unit n first (unit + 1) new after noted (omega arith) (omega arith) here
              (λ v low'' high other. (low'', omega arith)) (λ v low'' high. (low'', omega arith, same v high)),
        )

  module _ (unit n last count : ℕ) (numbers : List ℕ) (bounds : List Extremes) (old : AreGreatest touches (unit + 1) count (depth_in (number_at numbers) last) bounds)
      (above : IsAbove bounds (touches unit) n) (least : (x : ℕ) → IsAbove bounds (touches unit) x → n ≤ x) where
    bound : IsBound touches (unit + 1) count (depth_in (number_at numbers) last) unit n
    bound = bound_of touches (unit + 1) count (depth_in (number_at numbers) last) bounds old unit n above least

    pub deep_within : n ≤ last
    deep_within = bound.least last (λ v low high conflict. omega arith)

    module _ (after : List Extremes) (inside : unit < length numbers) (fits : unit < count) (noted : IsNoted bounds (touches unit) n after) where
      abbrev deeper : ℕ → ℕ
      deeper = number_at (set numbers unit (last - n))

      pub greatest_more : (to : ℕ) → HaveGreatest touches (unit + 1) to count last (number_at numbers) →
          HaveGreatest touches unit to count last deeper × AreGreatest touches unit count (depth_in deeper last) after
      greatest_more to have =
          let here : depth_in deeper last unit ≡ n = omega (arith, get_or-set_same numbers unit (last - n) 0 inside, deep_within) in
          let same : (v : ℕ) → unit < v → depth_in deeper last v ≡ depth_in (number_at numbers) last v = λ v lt. ap (λ m. last - m) (set_other numbers unit (last - n) v (λ e. omega arith)) in (
            λ u low high. elim (cases_eq u unit) [
              | inl is ↦
                  let at : IsBound touches (unit + 1) count (depth_in deeper last) unit (depth_in deeper last unit) =
                  subst (IsBound touches (unit + 1) count (depth_in deeper last) unit) (sym here)
                  (bound_alike touches (unit + 1) count (depth_in (number_at numbers) last) (depth_in deeper last) unit n (λ v low' _. same v (omega arith)) bound) in
                  rw is at
              | inr other ↦
                  subst (IsBound touches (u + 1) count (depth_in deeper last) u) (sym (same u (omega arith)))
                  (bound_alike touches (u + 1) count (depth_in (number_at numbers) last) (depth_in deeper last) u (depth_in (number_at numbers) last u) (λ v low' _. same v (omega arith))
                  (have u (omega arith) high))
            ],
            one_more touches (unit + 1) count (depth_in (number_at numbers) last) bounds old unit n unit count (depth_in deeper last) after noted (omega arith) fits here
                (λ v low high other. (omega arith, high)) (λ v low high. (omega arith, high, same v (omega arith))),
          )

  -- the seed falls to a unit exactly where its number is below the bound
  module _ (first : ℕ) (seed : List ℕ) (q n : ℕ) (inside : q < first + length seed) (bound : IsBound touches first q (seed_number first seed) q n) where
    pub bound_within : ((p : ℕ) → ¬ Falls touches first seed p q) → n ≤ seed_number first seed q
    bound_within nowhere = bound.least (seed_number first seed q) (λ p low lt conflict. elim (cases_lt (seed_number first seed q) (seed_number first seed p)) [
      | inl falls ↦ absurd (nowhere p (record { behind = low; ascend = lt; inside = inside; conflict = conflict; falls = falls }))
      | inr fine ↦ fine
    ])

    pub none_falls : n ≤ seed_number first seed q → (p : ℕ) → ¬ Falls touches first seed p q
    none_falls within p pair = let falls = pair.falls in omega (arith, bound.above p pair.behind pair.ascend pair.conflict)
