-- The greatest values of units that conflict with one.
use Rattle.std.proofs.Common.{◌≡◌, ℕ, ◌<◌, ◌≤◌, false, List, length, get_or, All, inl, inr, subst, arith}
use Rattle.std.proofs.lemmas.Bool.{cases_eq}
use Rattle.std.proofs.lemmas.List.{get_or_default}
use Rattle.spf_touch.specs.Conflict.{is_shared}
use Rattle.spf_touch.specs.declared.class.Class.{Class}
use Rattle.spf_touch.specs.declared.touch.Touch.{Touch}
use Rattle.spf_grow.specs.Bounds.{AreGreatest, IsAbove, IsBound, IsNoted, against_of, extreme_of, extremes_at}
use Rattle.spf_grow.specs.declared.extremes.Extremes.{Extremes}
use Rattle.spf_grow.proofs.Noting.{against_above, against_least}

-- what holds of all holds of the one that stands at a place
at_place : (P : Touch → Type 0) (ts : List Touch) (k : ℕ) (t : Touch) → k < length ts → get_or ts k t ≡ t → All P ts → P t
at_place P ts k t inside is all = subst P is (all k t inside)

module _ (touches : ℕ → List Touch) (from to : ℕ) (value : ℕ → ℕ) where
  pub none_yet : (bounds : List Extremes) → to ≤ from → ((e : ℕ) (c : Class) → extreme_of (extremes_at bounds e) c ≡ 0) → AreGreatest touches from to value bounds
  none_yet bounds past zeros = record { reached = λ u low high. absurd (omega arith); least = λ e c x h. omega (arith, zeros e c) }

  pub alike : (value' : ℕ → ℕ) (bounds : List Extremes) → ((u : ℕ) → from ≤ u → u < to → value' u ≡ value u) → AreGreatest touches from to value bounds → AreGreatest touches from to value' bounds
  alike value' bounds same old = record {
    reached = λ u low high k d inside. omega (arith, same u low high, old.reached u low high k d inside);
    least = λ e c x h. old.least e c x (λ u low high k d inside el cl. omega (arith, same u low high, h u low high k d inside el cl));
  }

  module _ (bounds : List Extremes) (old : AreGreatest touches from to value bounds) (u n : ℕ) where
    pub bound_of : IsAbove bounds (touches u) n → ((x : ℕ) → IsAbove bounds (touches u) x → n ≤ x) → IsBound touches from to value u n
    bound_of above least = record {
      above = λ v low high (k, s, inside, is, (j, t, inside', is', (same, clash))).
          let reach : value v ≤ extreme_of (extremes_at bounds s.element) s.class =
          at_place (λ t. value v ≤ extreme_of (extremes_at bounds t.element) t.class) (touches v) k s inside is (old.reached v low high) in
          let reach' : value v ≤ extreme_of (extremes_at bounds t.element) s.class = rw same at reach in
          let below : against_of (extremes_at bounds t.element) t.class ≤ n = at_place (λ t. against_of (extremes_at bounds t.element) t.class ≤ n) (touches u) j t inside' is' above in
          omega (arith, against_above (extremes_at bounds t.element) s.class t.class clash);
      least = λ x h. least x (λ j d inside'.
          let t : Touch = get_or (touches u) j d in
          against_least (extremes_at bounds t.element) t.class x (λ c clash. old.least t.element c x (λ v low high k d' inside el cl.
          let s : Touch = get_or (touches v) k d' in
          let clash' : is_shared s.class t.class ≡ false = rw cl clash in
          h v low high (k, s, inside, get_or_default (touches v) k s d' inside, (j, t, inside', get_or_default (touches u) j t d inside', (el, clash'))))));
    }

    pub one_more : (from' to' : ℕ) (value' : ℕ → ℕ) (after : List Extremes) → IsNoted bounds (touches u) n after → from' ≤ u → u < to' → value' u ≡ n →
        ((v : ℕ) → from' ≤ v → v < to' → (v ≡ u → ⊥) → (from ≤ v) × (v < to)) → ((v : ℕ) → from ≤ v → v < to → (from' ≤ v) × (v < to') × (value' v ≡ value v)) →
        AreGreatest touches from' to' value' after
    one_more from' to' value' after noted low high is others kept = record {
      reached = λ v low' high' k d inside. elim (cases_eq v u) [
        | inl same ↦ rw (same, is) (noted.reached k d (rw same at inside))
        | inr other ↦
            let old' = others v low' high' other in
            let t : Touch = get_or (touches v) k d in
            omega (arith, old.reached v old'.0 old'.1 k d inside, (kept v old'.0 old'.1).2, noted.kept t.element t.class)
      ];
      least = λ e c x h. noted.least e c x
          (old.least e c x (λ v low' high' k d inside el cl. let new = kept v low' high' in omega (arith, new.2, h v new.0 new.1 k d inside el cl)))
          (λ k d inside el cl. omega (arith, is, h u low high k d inside el cl));
    }

-- a bound of the same values
pub bound_alike : (touches : ℕ → List Touch) (from to : ℕ) (value value' : ℕ → ℕ) (u n : ℕ) → ((v : ℕ) → from ≤ v → v < to → value' v ≡ value v) →
    IsBound touches from to value u n → IsBound touches from to value' u n
bound_alike touches from to value value' u n same bound = record {
  above = λ v low high conflict. omega (arith, same v low high, bound.above v low high conflict);
  least = λ x h. bound.least x (λ v low high conflict. omega (arith, same v low high, h v low high conflict));
}
