-- Numbers that are bounds are the least and the greatest.
use Rattle.std.proofs.Common.{◌≡◌, ℕ, zero, suc, ◌+◌, ◌-◌, ◌<◌, ◌≤◌, List, length, get_or, inl, inr, ◌∙◌, arith}
use Rattle.std.proofs.lemmas.Bool.{cases_lt}
use Rattle.spf_touch.specs.Conflict.{Conflict}
use Rattle.spf_touch.specs.declared.touch.Touch.{Touch}
use Rattle.spf_touch.proofs.Classes.{conflict_turned}
use Rattle.spf_grow.specs.Bounds.{AreGreatest, HaveGreatest, HaveLeast, depth_in}
use Rattle.spf_grow.specs.Growth.{DoesNotFall, Falls, HasSeed, IsGrowth, seed_number}
use Rattle.spf_grow.specs.declared.extremes.Extremes.{Extremes}
use Rattle.spf_grow.proofs.Greatest.{alike}

module _ (touches : ℕ → List Touch) (count first : ℕ) (seed : List ℕ) where
  -- what has the seed
  pub seed_is : (f : ℕ → ℕ) → HasSeed first seed f → (u : ℕ) → first ≤ u → u < first + length seed → f u ≡ seed_number first seed u
  seed_is f has u low high =
      let at : first + (u - first) ≡ u = omega arith in
      rw at at (has (u - first) (omega arith))

  pub seed_kept : (old new : ℕ → ℕ) → ((u : ℕ) → u < first + length seed → new u ≡ old u) → HasSeed first seed old → HasSeed first seed new
  seed_kept old new kept has j inside = kept (first + j) (omega arith) ∙ has j inside

  pub seed_noted : (numbers : ℕ → ℕ) (bounds : List Extremes) → HasSeed first seed numbers → AreGreatest touches first (first + length seed) (seed_number first seed) bounds →
      AreGreatest touches first (first + length seed) numbers bounds
  seed_noted numbers bounds has old = alike touches first (first + length seed) (seed_number first seed) numbers bounds (seed_is numbers has) old

  module _ (numbers : ℕ → ℕ) (seeded : HasSeed first seed numbers) (have : HaveLeast touches first (first + length seed) count numbers) where
    -- they are at most what doesn't fall
    pub at_most : (f : ℕ → ℕ) → ((u : ℕ) → first ≤ u → u < first + length seed → numbers u ≤ f u)
        → ((p q : ℕ) → first ≤ p → p < q → first + length seed ≤ q → q < count → Conflict (touches p) (touches q) → f p ≤ f q) →
        (n u : ℕ) → u < n → first ≤ u → u < count → numbers u ≤ f u
    at_most f start rises zero u lt low high = absurd (omega arith)
    at_most f start rises (suc n) u lt low high = elim (cases_lt u (first + length seed)) [
      | inl here ↦ start u low here
      | inr later ↦ (have u later high).least (f u) (λ v low' lt' conflict.
          omega (arith, at_most f start rises n v (omega arith) low' (omega arith), rises v u low' lt' later high conflict))
    ]

    pub least_rises : ((p q : ℕ) → ¬ Falls touches first seed p q) → DoesNotFall touches first count numbers
    least_rises nowhere p q low lt high conflict = elim (cases_lt q (first + length seed)) [
      | inl here ↦ elim (cases_lt (numbers q) (numbers p)) [
        | inl falls ↦ absurd (nowhere p q (record {
          behind = low;
          ascend = lt;
          inside = here;
          conflict = conflict;
          falls = omega (arith, seed_is numbers seeded q (omega arith) here, seed_is numbers seeded p low (omega arith));
        }))
        | inr fine ↦ fine
      ]
      | inr later ↦ (have q later high).above p low lt conflict
    ]

    module _ (last : ℕ) (small : (j : ℕ) → j < length seed → get_or seed j 0 ≤ last) where
      pub within : (u : ℕ) → first ≤ u → u < count → numbers u ≤ last
      within u low high = at_most (λ _. last)
          (λ v low' here. omega (arith, seed_is numbers seeded v low' here, small (v - first) (omega arith))) (λ p q low' lt later high' conflict. omega arith) (u + 1) u (omega arith) low high

      module _ (nowhere : (p q : ℕ) → ¬ Falls touches first seed p q) (all : ℕ → ℕ) (fits : first + length seed ≤ count)
          (kept : (u : ℕ) → first ≤ u → u < count → all u ≡ numbers u) (front : (u : ℕ) → u < first → all u ≤ last)
          (deep : HaveGreatest touches 0 first count last all) where
        all_below : (u : ℕ) → u < count → all u ≤ last
        all_below u high = elim (cases_lt u first) [
          | inl before ↦ front u before
          | inr behind ↦ omega (arith, kept u behind high, within u behind high)
        ]

        all_rise : DoesNotFall touches 0 count all
        all_rise p q low lt high conflict = elim (cases_lt p first) [
          | inl before ↦
              omega (arith, (deep p (omega arith) before).above q (omega arith) high (conflict_turned (touches p) (touches q) conflict), all_below p (omega arith), all_below q high)
          | inr behind ↦ omega (arith, kept p behind (omega arith), kept q (omega arith) high, least_rises nowhere p q behind lt high conflict)
        ]

        at_least : (g : ℕ → ℕ) → ((u : ℕ) → u < count → g u < last + 1) → ((u : ℕ) → first ≤ u → u < count → g u ≡ all u) → DoesNotFall touches 0 count g →
            (n u : ℕ) → count ≤ u + n → u < count → g u ≤ all u
        at_least g below same rises zero u far high = absurd (omega arith)
        at_least g below same rises (suc n) u far high = elim (cases_lt u first) [
          | inl before ↦
              let depth : depth_in all last u ≤ last - g u = (deep u (omega arith) before).least (last - g u) (λ v low lt conflict.
              omega (arith, at_least g below same rises n v (omega arith) lt, rises u v (omega arith) (omega arith) lt (conflict_turned (touches v) (touches u) conflict))) in
              omega (arith, below u high, all_below u high)
          | inr behind ↦ omega (arith, same u behind high)
        ]

        pub grown : IsGrowth touches count first seed (last + 1) all
        grown = record {
          seeded = λ j inside. kept (first + j) (omega arith) (omega arith) ∙ seeded j inside;
          below = λ u high. omega (arith, all_below u high);
          rises = all_rise;
          least = λ f has rises u low high. omega (
            arith,
            kept u low high,
            at_most f (λ v low' here. omega (arith, seed_is numbers seeded v low' here, seed_is f has v low' here)) (λ p q low' lt later high' conflict. rises p q low' lt high' conflict) (u + 1) u (omega arith) low high,
          );
          greatest = λ g below same rises u high. at_least g below same rises count u (omega arith) high;
        }
