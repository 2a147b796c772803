-- Lists of which no number stands there twice.
use Rattle.std.proofs.Common.{◌≡◌, ◌≢◌, ℕ, ◌<◌, ◌^◌, true, List, [], ◌∷◌, ◌++◌, length, get_or, inl, inr, sym, eqb, arith}
use Rattle.std.specs.List.{AllPairs, IsDistinct}
use Rattle.std.proofs.lemmas.Bool.{cases_Bool, cases_order}
use Rattle.std.proofs.lemmas.Bool.Decides.{Decides-eqb}
use Rattle.std.proofs.lemmas.Cmp.{nat_eq_equiv}
use Rattle.std.proofs.lemmas.Map.Keys.{IsDistinct-push}
use Rattle.std.proofs.lemmas.Map.Made.{AllPairs-from_IsDistinct}
use Rattle.std.proofs.lemmas.Map.Steps.{le-length_from_below, length-le_from_distinct_below}
use Rattle.spf_perm.specs.Perm.{IsPerm}
use Rattle.spf_touch.proofs.Members.{in_at}
use Rattle.spf_touch.specs.Listed.{all_listed}
use Rattle.spf_touch.specs.Ordered.{is_in}

pub all_distinct : (base xs : List ℕ) → IsDistinct eqb base → IsDistinct eqb (all_listed base xs)
all_distinct base [] is = is
all_distinct base (x ∷ xs) is = elim (cases_Bool (is_in base x)) [
  | inl there ↦ rw there (all_distinct base xs is)
  | inr none ↦ rw none (all_distinct (base ++ x ∷ []) xs (IsDistinct-push nat_eq_equiv base x is none))
]

-- a list of distinct numbers that are the numbers below count
pub distinct_long : (list : List ℕ) (count : ℕ) → IsDistinct eqb list → ((y : ℕ) → is_in list y ≡ true → y < count) → ((y : ℕ) → y < count → is_in list y ≡ true) → length list ≡ count
distinct_long list count distinct below all = omega (arith, length-le_from_distinct_below list count distinct below, le-length_from_below list count all)

pub distinct_perm : (list : List ℕ) (count : ℕ) → count < 2 ^ 32 → IsDistinct eqb list → ((y : ℕ) → is_in list y ≡ true → y < count) → ((y : ℕ) → y < count → is_in list y ≡ true) → IsPerm list
distinct_perm list count few distinct below all = record {
  few = omega (arith, long);
  below = λ e lt. omega (arith, long, below (get_or list e 0) (in_at list e 0 lt));
  distinct = λ d e ltd lte same. elim (cases_order d e) [
    | inl alike ↦ alike
    | inr (inl lt) ↦ absurd (apart d e 0 lt lte same)
    | inr (inr gt) ↦ absurd (apart e d 0 gt ltd (sym same))
  ];
}
  where
    long : length list ≡ count
    long = distinct_long list count distinct below all

    apart : AllPairs (λ x y. x ≢ y) list
    apart = AllPairs-from_IsDistinct Decides-eqb list distinct

pub nothing_distinct : IsDistinct eqb []
unfolding IsDistinct
nothing_distinct = tt
