-- Permutations in another order, and permutations that order positions alike.
use Rattle.std.proofs.Common.{◌≡◌, ℕ, zero, suc, ◌<◌, ◌≢◌, List, length, sym, ◌∙◌, inl, inr, arith}
use Rattle.std.specs.List.{All, AllPairs}
use Rattle.std.specs.List.Sorted.{IsPermutation}
use Rattle.std.proofs.Math.Dec.{eqb}
use Rattle.std.proofs.lemmas.Bool.{cases_order}
use Rattle.std.proofs.lemmas.Bool.Decides.{Decides-eqb}
use Rattle.std.proofs.lemmas.Cmp.{nat_eq_equiv}
use Rattle.std.proofs.lemmas.List.{get_or_default, same_lists}
use Rattle.std.proofs.lemmas.List.Sorted.{All-permutation, length_permutation}
use Rattle.std.proofs.lemmas.Map.Keys.{IsDistinct-IsPermutation}
use Rattle.std.proofs.lemmas.Map.Made.{AllPairs-from_IsDistinct, IsDistinct-from_AllPairs}
use Rattle.spf_perm.specs.Perm.{at, IsPerm}
use Rattle.spf_perm.proofs.Bijections.{reached}

-- entries that are a permutation are one in any order
pub perm_permuted : (xs ys : List ℕ) → IsPerm xs → IsPermutation xs ys → IsPerm ys
perm_permuted xs ys is moved = record {
  few = omega (arith, long, is.few);
  below = λ e lt. omega (arith, long, All-permutation (λ n. n < length xs) xs ys moved inside e 0 lt);
  distinct = λ d e ltd lte same. elim (cases_order d e) [
    | inl alike ↦ alike
    | inr (inl lt) ↦ absurd (apart d e 0 lt lte same)
    | inr (inr gt) ↦ absurd (apart e d 0 gt ltd (sym same))
  ];
}
  where
    long : length ys ≡ length xs
    long = length_permutation xs ys moved

    inside : All (λ n. n < length xs) xs
    inside k d lt = rw (get_or_default xs k d 0 lt) (is.below k lt)

    pairs : AllPairs (λ x y. x ≢ y) xs
    pairs i j d lt within same = omega (arith, is.distinct i j (omega arith) within (get_or_default xs i 0 d (omega arith) ∙ same ∙ get_or_default xs j d 0 within))

    apart : AllPairs (λ x y. x ≢ y) ys
    apart = AllPairs-from_IsDistinct Decides-eqb ys (IsDistinct-IsPermutation eqb (λ x y. nat_eq_equiv.symm x y) xs ys moved (IsDistinct-from_AllPairs Decides-eqb xs pairs))

-- of two permutations that order all positions alike the places are alike
module _ (a b : List ℕ) (is_a : IsPerm a) (is_b : IsPerm b) (long : length b ≡ length a)
    (alike : (i j : ℕ) → i < length a → j < length a → (at a i < at a j → at b i < at b j) × (at b i < at b j → at a i < at a j)) where
  same_below : (bound e : ℕ) → e < length a → at a e < bound → at b e ≡ at a e
  same_below zero e lt under = absurd (omega arith)
  same_below (suc bound) e lt under = elim (cases_order (at b e) (at a e)) as (λ _. at b e ≡ at a e) [
    | inl same ↦ same
    | inr (inl lower) ↦
        let f = reached a is_a (at b e) (omega (arith, is_b.below e (omega (arith, long)), long)) in
        let before = (alike f.0 e f.1 lt).0 (omega (arith, f.2)) in
        absurd (omega (arith, before, f.2, same_below bound f.0 f.1 (omega (arith, f.2))))
    | inr (inr higher) ↦
        let g = reached b is_b (at a e) (omega (arith, is_a.below e lt, long)) in
        let g_lt : g.0 < length a = omega (arith, g.1, long) in
        let before = (alike g.0 e g_lt lt).1 (omega (arith, g.2)) in
        absurd (omega (arith, before, g.2, same_below bound g.0 g_lt (omega arith)))
  ]

  pub one_list : a ≡ b
  one_list = same_lists a b (sym long) (λ k d lt. get_or_default a k d 0 lt ∙ sym (same_below (suc (at a k)) k lt (omega arith)) ∙ get_or_default b k 0 d (omega (arith, long)))
