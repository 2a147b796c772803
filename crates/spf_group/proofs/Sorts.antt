-- What a stable sort of positions by their keys makes of their order.
use Rattle.std.proofs.Common.{◌≡◌, ℕ, ◌+◌, ◌-◌, ◌<◌, ◌≤◌, List, length, slice_index_or, ◌⊎◌, Bool, true, false, refl, sym, ap, ◌∙◌, subst, inl, inr, arith}
use Rattle.std.specs.Cmp.Lexicographic.{slice_cmp}
use Rattle.std.specs.List.Sorted.{IsPermutation, IsSortedBy, IsSortedByKey, IsStableByKey, ties}
use Rattle.std.specs.Ordering.{MatchOrdering, is_lt, nat_cmp}
use Rattle.std.specs.declared.cmp.Ordering.{Ordering}
use Rattle.std.specs.declared.cmp.Ordering.TheVariants.{Less, Equal, Greater}
use Rattle.std.proofs.Math.Dec.{ltb}
use Rattle.std.proofs.lemmas.Bool.{cases_order}
use Rattle.std.proofs.lemmas.Bool.Decides.{nat_tests}
use Rattle.std.proofs.lemmas.Cmp.{nat_list_cmp_total, tied_itself}
use Rattle.std.proofs.lemmas.List.{get_or_default}
use Rattle.std.proofs.lemmas.List.Sorted.{IsStrictWeakOrder-by_number, length_permutation, ranks_by, ties_stay_sorted}
use Rattle.spf_perm.specs.Perm.{at, AreDistinct, AreInverse, IsPerm}
use Rattle.spf_group.specs.Ordered.{ComesBefore, IsBefore, IsOrderedBy}
use Rattle.spf_group.proofs.Before.{before_less, climbs, comes_irrefl, comes_trans, compared}
use Rattle.spf_group.proofs.Perms.{perm_permuted}

pub ordered_alike : (key other : ℕ → List ℕ) (old new : List ℕ) → ((i : ℕ) → i < length old → key i ≡ other i) → IsOrderedBy key old new → IsOrderedBy other old new
ordered_alike key other old new alike o = record {
  lengths = o.lengths;
  order = λ i j lti ltj.
      let ei = alike i lti in
      let ej = alike j ltj in
      (λ lt. there i j ei ej ((o.order i j lti ltj).0 lt), λ comes. (o.order i j lti ltj).1 (back i j ei ej comes));
}
  where
    there : (i j : ℕ) → key i ≡ other i → key j ≡ other j → ComesBefore key old i j → ComesBefore other old i j
    there i j ei ej comes = subst (λ (l : List ℕ). IsBefore (other i) l ⊎ ((other i ≡ l) × (at old i < at old j))) ej (subst (λ (l : List ℕ). IsBefore l (key j) ⊎ ((l ≡ key j) × (at old i < at old j))) ei comes)

    back : (i j : ℕ) → key i ≡ other i → key j ≡ other j → ComesBefore other old i j → ComesBefore key old i j
    back i j ei ej comes = subst (λ (l : List ℕ). IsBefore (key i) l ⊎ ((key i ≡ l) × (at old i < at old j))) (sym ej) (subst (λ (l : List ℕ). IsBefore l (other j) ⊎ ((l ≡ other j) × (at old i < at old j))) (sym ei) comes)

module _ (key : ℕ → List ℕ) (old current sorted : List ℕ) (is_current : IsPerm current) (back : AreInverse old current)
    (moved : IsPermutation current sorted) (up : IsSortedByKey key (slice_cmp nat_cmp) sorted) (stable : IsStableByKey key (slice_cmp nat_cmp) current sorted) where
  long : length sorted ≡ length old
  long = length_permutation current sorted moved ∙ back.lengths

  pub is_sorted : IsPerm sorted
  is_sorted = perm_permuted current sorted is_current moved

  abbrev by_old : ℕ → ℕ → Bool
  by_old a b = ltb (at old a) (at old b)

  apart : AreDistinct old (length old)
  apart d e ltd lte same = sym (back.returns d ltd) ∙ ap (at current) same ∙ back.returns e lte

  -- the positions in current order ascend in it
  ascending : IsSortedBy by_old current
  ascending k d low lt =
      let first : at old (slice_index_or current k d) ≡ k = ap (at old) (get_or_default current k d 0 (omega arith)) ∙ back.reaches k (omega (arith, back.lengths)) in
      let second : at old (slice_index_or current (k + 1) d) ≡ k + 1 = ap (at old) (get_or_default current (k + 1) d 0 lt) ∙ back.reaches (k + 1) (omega (arith, back.lengths)) in
      rw (first, second) (grind (arith, nat_tests))

  -- neighbours with one key stay in the old order
  tied : (k : ℕ) → k + 1 < length sorted → key (at sorted k) ≡ key (at sorted (k + 1)) → at old (at sorted k) < at old (at sorted (k + 1))
  tied k lt same =
      let tie : ties (λ x y. is_lt (slice_cmp nat_cmp (key x) (key y))) (at sorted k) (at sorted (k + 1)) ≡ true = rw (same, tied_itself nat_list_cmp_total (key (at sorted (k + 1)))) refl in
      let stays : by_old (at sorted (k + 1)) (at sorted k) ≡ false =
      ties_stay_sorted by_old (λ x y. is_lt (slice_cmp nat_cmp (key x) (key y))) (IsStrictWeakOrder-by_number (at old)) (ranks_by nat_list_cmp_total key) current sorted ascending stable k 0 lt tie in
      let not_above : at old (at sorted k) ≤ at old (at sorted (k + 1)) = grind (arith, nat_tests) in
      elim (cases_order (at old (at sorted k)) (at old (at sorted (k + 1)))) [
        | inl alike ↦
            let one = is_sorted.distinct k (k + 1) (omega arith) lt (apart (at sorted k) (at sorted (k + 1)) (within k (omega arith)) (within (k + 1) lt) alike) in absurd (omega arith)
        | inr (inl before) ↦ before
        | inr (inr after) ↦ absurd (omega arith)
      ]
    where
      within : (n : ℕ) → n < length sorted → at sorted n < length old
      within n below = omega (arith, is_sorted.below n below, long)

  next : (k : ℕ) → k + 1 < length sorted → ComesBefore key old (at sorted k) (at sorted (k + 1))
  next k lt = by (slice_cmp nat_cmp (key (at sorted k)) (key (at sorted (k + 1)))) (compared (key (at sorted k)) (key (at sorted (k + 1))))
    where
      by : (o : Ordering) → MatchOrdering o (IsBefore (key (at sorted k)) (key (at sorted (k + 1)))) (key (at sorted k) ≡ key (at sorted (k + 1))) (IsBefore (key (at sorted (k + 1))) (key (at sorted k)))
          → ComesBefore key old (at sorted k) (at sorted (k + 1))
      by Less h = inl h
      by Equal h = inr (h, tied k lt h)
      by Greater h = absurd (before_less (key (at sorted (k + 1))) (key (at sorted k)) h (up k 0 (omega arith) lt))

  rises : (j k : ℕ) → j < k → k < length sorted → ComesBefore key old (at sorted j) (at sorted k)
  rises j k lt within = let e : j + (k - j - 1) + 1 ≡ k = omega arith in rw e at (climbs key old sorted next (k - j - 1) j (rw e within))

  pub ordered : (new : List ℕ) → IsPerm new → AreInverse sorted new → IsOrderedBy key old new
  ordered new is_new inverse = record { lengths = inverse.lengths ∙ long; order = λ i j lti ltj. (rises_at i j lti ltj, falls i j lti ltj) }
    where
      rises_at : (i j : ℕ) → i < length old → j < length old → at new i < at new j → ComesBefore key old i j
      rises_at i j lti ltj lt =
          let within : at new j < length sorted = omega (arith, is_new.below j (omega (arith, inverse.lengths, long)), inverse.lengths) in
          rw (inverse.reaches i (omega (arith, long)), inverse.reaches j (omega (arith, long))) at (rises (at new i) (at new j) lt within)

      falls : (i j : ℕ) → i < length old → j < length old → ComesBefore key old i j → at new i < at new j
      falls i j lti ltj comes = elim (cases_order (at new i) (at new j)) [
        | inl same ↦
            let one : i ≡ j = is_new.distinct i j (omega (arith, inverse.lengths, long)) (omega (arith, inverse.lengths, long)) same in
            absurd (comes_irrefl key old j (rw one at comes))
        | inr (inl lt) ↦ lt
        | inr (inr gt) ↦ absurd (comes_irrefl key old i (comes_trans key old i j i comes (rises_at j i ltj lti gt)))
      ]
