-- Distinct places below the length are all places, so that a permutation leads back.
use Rattle.std.proofs.Common.{◌≡◌, ℕ, zero, suc, ◌+◌, ◌<◌, ◌≢◌, ◌^◌, true, false, List, [], ◌∷◌, ◌++◌, length, map, slice_index_or, slice_set, refl, sym, ap, ◌∙◌, inl, inr, arith}
use Rattle.std.specs.List.{All, list_any, range_with_len, AllPairs}
use Rattle.std.proofs.Math.Dec.{eqb}
use Rattle.std.proofs.lemmas.Bool.{cases_eq, eq-eqb, eqb-true}
use Rattle.std.proofs.lemmas.Bool.Decides.{Decides-eqb}
use Rattle.std.proofs.lemmas.List.{get_or_default, get_or-map, get_or-set_same, get_or-set_other, length-map, map-id}
use Rattle.std.proofs.lemmas.List.FromFn.{length-range_with_len, get_or-range_with_len, map-range_with_len_more}
use Rattle.std.proofs.lemmas.List.Elements.{All-cons, All-contains}
use Rattle.std.proofs.lemmas.List.Folds.{list_any_at}
use Rattle.std.proofs.lemmas.Map.Made.{IsDistinct-from_AllPairs}
use Rattle.std.proofs.lemmas.Map.Steps.{length-le_from_distinct_below}
use Rattle.std.proofs.lemmas.Map.Views.{Contains-from_any}
use Rattle.spf_perm.specs.Perm.{at, AreDistinct, AreInside, AreInverse, IsPerm}

module _ {A : Type 0} where
  -- the places that the first entries name have what each entry gives
  abbrev pub AreMoved : List ℕ → (ℕ → A) → A → List A → ℕ → Type 0
  AreMoved list give none to count = (e : ℕ) → e < count → slice_index_or to (at list e) none ≡ give e

  pub moved_more : (list : List ℕ) (give : ℕ → A) (none : A) (to : List A) (count : ℕ) (value : A) → AreDistinct list (length list) → AreInside list (length list)
      → length to ≡ length list → count < length list → value ≡ give count → AreMoved list give none to count → AreMoved list give none (slice_set to (at list count) value) (count + 1)
  moved_more list give none to count value distinct inside long lt is moved e within = elim (cases_eq e count) [
    | inl same ↦ rw same (get_or-set_same to (at list count) value none (omega (arith, inside count lt)) ∙ is)
    | inr other ↦
        let apart : at list e ≢ at list count = λ both. other (distinct e count (omega arith) lt both) in
        get_or-set_other to (at list count) (at list e) value none apart ∙ moved e (omega arith)
  ]

same_default : (list : List ℕ) (k d e : ℕ) → k < length list → slice_index_or list k e ≡ slice_index_or list k d
same_default list k d e lt = get_or_default list k e d lt

missing_apart : (list : List ℕ) → IsPerm list → (place : ℕ) → list_any (eqb place) list ≡ false → AllPairs (λ x y. x ≢ y) (place ∷ list)
missing_apart list perm place missing i zero d lt within same = omega arith
missing_apart list perm place missing zero (suc j) d lt within same =
    let there : list_any (eqb place) list ≡ true = list_any_at (eqb place) list j d (omega arith) (rw (← same) (eq-eqb place place refl)) in cc
missing_apart list perm place missing (suc i) (suc j) d lt within same =
    let both : i ≡ j = perm.distinct i j (omega arith) (omega arith) (same_default list i d 0 (omega arith) ∙ same ∙ same_default list j 0 d (omega arith)) in omega arith

all_below : (list : List ℕ) → IsPerm list → (place : ℕ) → place < length list → (q : ℕ) → list_any (eqb q) (place ∷ list) ≡ true → q < length list
all_below list perm place lt q found = All-contains (λ e. e < length list) (place ∷ list) q (All-cons (λ e. e < length list) place list lt below) (Contains-from_any eqb-true q (place ∷ list) found)
  where
    below : All (λ e. e < length list) list
    below k d within = rw (same_default list k 0 d within) (perm.below k within)

-- each place below the length is an entry
pub reached : (list : List ℕ) → IsPerm list → (place : ℕ) → place < length list → (e : ℕ) × (e < length list) × (at list e ≡ place)
reached list perm place lt = elim (list_any (eqb place) list) as (λ b. list_any (eqb place) list ≡ b → (e : ℕ) × (e < length list) × (at list e ≡ place)) [
  | true ↦ λ found. let c = Contains-from_any eqb-true place list found in (c.0, c.1, same_default list c.0 place 0 c.1 ∙ c.2)
  | false ↦ λ missing.
      let apart : AllPairs (λ x y. x ≢ y) (place ∷ list) = missing_apart list perm place missing in
      absurd (omega (arith, length-le_from_distinct_below (place ∷ list) (length list) (IsDistinct-from_AllPairs Decides-eqb (place ∷ list) apart) (all_below list perm place lt)))
] refl

pub inverse_from : (perm back : List ℕ) → IsPerm perm → length back ≡ length perm → AreMoved perm (λ e. e) 0 back (length perm) → AreInverse perm back
inverse_from perm back is long moved = record {
  lengths = long;
  returns = moved;
  reaches = λ place lt. let r = reached perm is place lt in ap (at perm) (sym (ap (at back) r.2) ∙ moved r.0 r.1) ∙ r.2;
}

pub inverse_is_perm : (perm back : List ℕ) → IsPerm perm → AreInverse perm back → IsPerm back
inverse_is_perm perm back is inverse = record {
  few = omega (arith, is.few, inverse.lengths);
  below = λ place lt. below place (omega (arith, inverse.lengths));
  distinct = λ d e ltd lte same.
      sym (inverse.reaches d (omega (arith, inverse.lengths))) ∙ ap (at perm) same ∙ inverse.reaches e (omega (arith, inverse.lengths));
}
  where
    below : (place : ℕ) → place < length perm → at back place < length back
    below place lt =
        let r = reached perm is place lt in
        let from : at back place ≡ r.0 = sym (ap (at back) r.2) ∙ inverse.returns r.0 r.1 in
        omega (arith, from, r.1, inverse.lengths)

pub then_is_perm : (first after : List ℕ) → IsPerm first → IsPerm after → length after ≡ length first → IsPerm (map (at after) first)
then_is_perm first after p q long = record {
  few = rw length-map p.few;
  below = λ e lt. let l : e < length first = rw length-map at lt in omega (arith, both e l, p.below e l, long, q.below (at first e) (omega (arith, p.below e l)), length-map first (at after));
  distinct = λ d e ltd lte same.
      let l : d < length first = rw length-map at ltd in
      let m : e < length first = rw length-map at lte in
      p.distinct d e l m (q.distinct (at first d) (at first e) (omega (arith, p.below d l)) (omega (arith, p.below e m)) (sym (both d l) ∙ same ∙ both e m));
}
  where
    both : (e : ℕ) → e < length first → at (map (at after) first) e ≡ at after (at first e)
    both e lt = get_or-map (at after) first e 0 0 lt

pub identity_is_perm : (count : ℕ) → count < 2 ^ 32 → IsPerm (range_with_len 0 count)
identity_is_perm count few = record {
  few = rw length-range_with_len few;
  below = λ e lt. omega (arith, length-range_with_len 0 count, get_or-range_with_len 0 count e 0 (omega (arith, length-range_with_len 0 count)));
  distinct = λ d e ltd lte same.
      omega (arith, length-range_with_len 0 count, same, get_or-range_with_len 0 count d 0 (omega (arith, length-range_with_len 0 count)), get_or-range_with_len 0 count e 0 (omega (arith, length-range_with_len 0 count)));
}

pub range_more : (count : ℕ) → range_with_len 0 (count + 1) ≡ range_with_len 0 count ++ count ∷ []
range_more count = rw (map-id, map-id) at (map-range_with_len_more (λ n. n) 0 count count (omega arith))
