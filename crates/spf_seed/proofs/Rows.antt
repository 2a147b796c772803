-- The entries of a view, and those of one element.
use Rattle.std.proofs.Common.{◌≡◌, ◌≢◌, ℕ, suc, ◌+◌, ◌-◌, ◌<◌, ◌≤◌, Bool, true, false, ◌&&◌, ◌||◌, List, [], ◌∷◌, ◌++◌, length, get_or, take, drop, map, filter, inl, inr, refl, sym, ap, ◌∙◌, eqb, ltb, leb, length-drop, length-take, append-nil, arith}
use Rattle.std.specs.List.{All, flat_map, slice_range}
use Rattle.std.specs.List.Sorted.{IsNonDecreasingBy, IsPartitionPoint, IsPermutation}
use Rattle.std.proofs.lemmas.Bool.{and_from, and_parts, cases_Bool, cases_lt, cases_order, eq-eqb, eqb-true, le-ltb, leb-false, leb-true, lt-ltb, ltb-false, ltb-true, ne_eqb, or_cases, or_left, or_right}
use Rattle.std.proofs.lemmas.List.{get_or-drop, get_or-take, length-take-le, take-append-drop}
use Rattle.std.proofs.lemmas.List.Elements.{filter-append, filter_passes}
use Rattle.std.proofs.lemmas.List.Folds.{list_any-append, list_any_at}
use Rattle.std.proofs.lemmas.List.Sorted.{list_any-IsPermutation}
use Rattle.spf_seed.specs.Entries.{AreEntriesTo, AreInverted, entry_at, has_entry, positions_in, row_of}
use Rattle.spf_touch.specs.Ordered.{is_in}
use Rattle.spf_seed.specs.declared.inverted.Entry.{Entry}
use Rattle.spf_touch.proofs.Members.{in_append}
use Rattle.spf_touch.proofs.Listed.{or_false}

none : Entry
none = record { element = 0; position = 0 }

filter_none : (p : Entry → Bool) (xs : List Entry) → All (λ x. p x ≡ false) xs → filter p xs ≡ []
filter_none p [] all = refl
filter_none p (x ∷ xs) all = let here : p x ≡ false = all 0 x (omega arith) in rw here (filter_none p xs (λ k d lt. all (suc k) d (omega arith)))

filter_all : (p : Entry → Bool) (xs : List Entry) → All (λ x. p x ≡ true) xs → filter p xs ≡ xs
filter_all p [] all = refl
filter_all p (x ∷ xs) all = let here : p x ≡ true = all 0 x (omega arith) in rw here (ap (λ (l : List Entry). x ∷ l) (filter_all p xs (λ k d lt. all (suc k) d (omega arith))))

-- the entries from the first one that isn't below the element up to the first one above it
module _ (entries : List Entry) (e start end : ℕ) (from : IsPartitionPoint (λ (x : Entry). ltb x.element e ≡ true) (λ (x : Entry). ltb x.element e ≡ false) entries start)
    (to : IsPartitionPoint (λ (x : Entry). leb x.element e ≡ true) (λ (x : Entry). leb x.element e ≡ false) entries end)
    (start_in : start ≤ length entries) (end_in : end ≤ length entries) where
  pub row_ends : start ≤ end
  row_ends = elim (cases_lt end start) [
    | inl less ↦ absurd (omega (arith, ltb-true (get_or entries end none).element e (from.0 end none (omega arith) less), leb-false (get_or entries end none).element e (to.1 end none (omega arith) (omega arith))))
    | inr le ↦ le
  ]

  pub row_is : slice_range entries start end ≡ row_of entries e
  row_is =
      let p = λ (x : Entry). eqb e x.element in
      let rest = drop start entries in
      let whole : row_of entries e ≡ filter p (take start entries) ++ (filter p (take (end - start) rest) ++ filter p (drop (end - start) rest)) =
      ap (filter p) (sym (take-append-drop start entries)) ∙ filter-append p (take start entries) rest
      ∙ ap (λ (l : List Entry). filter p (take start entries) ++ l) (ap (filter p) (sym (take-append-drop (end - start) rest)) ∙ filter-append p (take (end - start) rest) (drop (end - start) rest)) in
      let before : filter p (take start entries) ≡ [] = filter_none p (take start entries) (λ k d lt.
      let inside : k < start = omega (arith, length-take-le start entries start_in) in
      rw (get_or-take start entries k d inside) (ne_eqb e (get_or entries k d).element (λ same. omega (arith, ltb-true (get_or entries k d).element e (from.0 k d (omega arith) inside))))) in
      let here : filter p (take (end - start) rest) ≡ take (end - start) rest = filter_all p (take (end - start) rest) (λ k d lt.
      let inside : k < end - start = omega (arith, length-take (end - start) rest) in
      rw (get_or-take (end - start) rest k d inside, get_or-drop start entries k d) (eq-eqb e (get_or entries (start + k) d).element (omega (
        arith,
        leb-true (get_or entries (start + k) d).element e (to.0 (start + k) d (omega arith) (omega arith)),
        ltb-false (get_or entries (start + k) d).element e (from.1 (start + k) d (omega arith) (omega arith)),
      )))) in
      let after : filter p (drop (end - start) rest) ≡ [] = filter_none p (drop (end - start) rest) (λ k d lt.
      let place : ℕ = start + (end - start + k) in
      let inside : start + (end - start + k) < length entries = omega (arith, length-drop (end - start) rest, length-drop start entries) in
      rw (get_or-drop (end - start) rest k d, get_or-drop start entries (end - start + k) d) (ne_eqb e (get_or entries (start + (end - start + k)) d).element (λ same.
      omega (arith, leb-false (get_or entries (start + (end - start + k)) d).element e (to.1 (start + (end - start + k)) d (omega (arith, row_ends)) inside))))) in
      sym (whole ∙ rw (before, here, after) (append-nil (take (end - start) rest)))

-- where a row has an entry it begins with one of its element
pub row_begins : (entries : List Entry) (e start end : ℕ) → slice_range entries start end ≡ row_of entries e → row_of entries e ≢ [] → end ≤ length entries →
    (start < length entries) × ((d : Entry) → (get_or entries start d).element ≡ e)
row_begins entries e start end is some inside = (
  omega (arith, less),
  λ d.
      let zero_is : start + 0 ≡ start = omega arith in
      let there : get_or (slice_range entries start end) 0 d ≡ get_or entries start d = get_or-take (end - start) (drop start entries) 0 d (omega (arith, less)) ∙ get_or-drop start entries 0 d ∙ ap (λ n. get_or entries n d) zero_is in
      let passes = filter_passes (λ (x : Entry). eqb e x.element) entries 0 d (rw (← is) (omega (arith, less, length-take (end - start) (drop start entries), length-drop start entries))) in
      let first : get_or (row_of entries e) 0 d ≡ get_or entries start d = ap (λ (l : List Entry). get_or l 0 d) (sym is) ∙ there in
      sym (eqb-true e (get_or entries start d).element (rw first at passes)),
)
  where
    less : start < end
    less = elim (cases_lt start end) [
      | inl lt ↦ lt
      | inr ge ↦ let nothing : end - start ≡ 0 = omega arith in let empty : slice_range entries start end ≡ [] = rw nothing refl in absurd (some (sym is ∙ empty))
    ]

-- what stands in rows
pub in_row : (entries : List Entry) (e j : ℕ) → is_in (positions_in (row_of entries e)) j ≡ has_entry entries e j
in_row [] e j = refl
in_row (x ∷ entries) e j = elim (cases_Bool (eqb e x.element)) [
  | inl same ↦ rw same (ap (λ b. eqb j x.position || b) (in_row entries e j))
  | inr other ↦ rw other (in_row entries e j)
]

pub in_rows : (entries : List Entry) (es : List ℕ) (j : ℕ) → is_in (flat_map (λ e. positions_in (row_of entries e)) es) j ≡ true → (e : ℕ) × (is_in es e ≡ true) × (has_entry entries e j ≡ true)
in_rows entries [] j h = cc
in_rows entries (e ∷ es) j h =
    elim (or_cases (is_in (positions_in (row_of entries e)) j) (is_in (flat_map (λ e. positions_in (row_of entries e)) es) j)
    (sym (in_append (positions_in (row_of entries e)) (flat_map (λ e. positions_in (row_of entries e)) es) j) ∙ h)) [
      | inl here ↦ (e, or_left (eqb e e) (is_in es e) (eq-eqb e e refl), sym (in_row entries e j) ∙ here)
      | inr later ↦ let rest = in_rows entries es j later in (rest.0, or_right (eqb rest.0 e) (is_in es rest.0) rest.1, rest.2)
    ]

pub rows_have : (entries : List Entry) (es : List ℕ) (e j : ℕ) → is_in es e ≡ true → has_entry entries e j ≡ true → is_in (flat_map (λ e. positions_in (row_of entries e)) es) j ≡ true
rows_have entries [] e j h has = cc
rows_have entries (f ∷ es) e j h has =
    in_append (positions_in (row_of entries f)) (flat_map (λ e. positions_in (row_of entries e)) es) j ∙ elim (or_cases (eqb e f) (is_in es e) h) [
      | inl same ↦ let is : e ≡ f = eqb-true e f same in or_left (is_in (positions_in (row_of entries f)) j) (is_in (flat_map (λ e. positions_in (row_of entries e)) es) j) (in_row entries f j ∙ rw is at has)
      | inr later ↦ or_right (is_in (positions_in (row_of entries f)) j) (is_in (flat_map (λ e. positions_in (row_of entries e)) es) j) (rows_have entries es e j later has)
    ]

-- the entries of one position more
has_made : (position : ℕ) (xs : List ℕ) (e j : ℕ) → has_entry (map (entry_at position) xs) e j ≡ (eqb j position && is_in xs e)
has_made position [] e j = sym (no (eqb j position))
  where
    no : (b : Bool) → (b && false) ≡ false
    no true = refl
    no false = refl
has_made position (x ∷ xs) e j = ap (λ b. (eqb e x && eqb j position) || b) (has_made position xs e j) ∙ both (eqb e x) (eqb j position) (is_in xs e)
  where
    both : (a b c : Bool) → ((a && b) || (b && c)) ≡ (b && (a || c))
    both true true c = refl
    both false true c = refl
    both true false c = refl
    both false false c = refl

pub entries_more : (touched : ℕ → List ℕ) (count : ℕ) (entries : List Entry) → AreEntriesTo touched count entries → AreEntriesTo touched (count + 1) (entries ++ map (entry_at count) (touched count))
entries_more touched count entries are e j =
    list_any-append (λ (x : Entry). eqb e x.element && eqb j x.position) entries (map (entry_at count) (touched count))
    ∙ ap (λ b. b || has_entry (map (entry_at count) (touched count)) e j) (are e j)
    ∙ ap (λ b. (ltb j count && is_in (touched j) e) || b) (has_made count (touched count) e j)
    ∙ elim (cases_order j count) as (λ _. ((ltb j count && is_in (touched j) e) || (eqb j count && is_in (touched count) e)) ≡ (ltb j (count + 1) && is_in (touched j) e)) [
      | inl same ↦ rw same (rw (le-ltb count count (omega arith), eq-eqb count count refl, lt-ltb count (count + 1) (omega arith)) refl)
      | inr (inl less) ↦ rw (lt-ltb j count less, ne_eqb j count (λ same. omega arith), lt-ltb j (count + 1) (omega arith)) (or_false (is_in (touched j) e))
      | inr (inr more) ↦ rw (le-ltb j count (omega arith), ne_eqb j count (λ same. omega arith), le-ltb j (count + 1) (omega arith)) refl
    ]

pub inverted_from : (touched : ℕ → List ℕ) (count : ℕ) (entries sorted : List Entry) → AreEntriesTo touched count entries → IsPermutation entries sorted →
    IsNonDecreasingBy (λ (x : Entry). x.element) sorted → AreInverted touched count sorted
inverted_from touched count entries sorted are moved rising = record {
  each = λ e j. sym (list_any-IsPermutation (λ (x : Entry). eqb e x.element && eqb j x.position) entries sorted moved) ∙ are e j;
  sorted = rising;
}

-- all entries are of positions below count, and a touched element has a row
module _ (touched : ℕ → List ℕ) (count : ℕ) (entries : List Entry) (are : AreEntriesTo touched count entries) where
  pub has : (e j : ℕ) → has_entry entries e j ≡ true → (j < count) × (is_in (touched j) e ≡ true)
  has e j h = let parts = and_parts (ltb j count) (is_in (touched j) e) (sym (are e j) ∙ h) in (ltb-true j count parts.0, parts.1)

  pub has_from : (e j : ℕ) → j < count → is_in (touched j) e ≡ true → has_entry entries e j ≡ true
  has_from e j lt h = are e j ∙ and_from (ltb j count) (is_in (touched j) e) (lt-ltb j count lt) h

  pub all_below : All (λ (x : Entry). x.position < count) entries
  all_below k d lt =
      let x = get_or entries k d in
      (has x.element x.position (list_any_at (λ (y : Entry). eqb x.element y.element && eqb x.position y.position) entries k d lt
      (and_from (eqb x.element x.element) (eqb x.position x.position) (eq-eqb x.element x.element refl) (eq-eqb x.position x.position refl)))).0

  pub row_there : (e j : ℕ) → j < count → is_in (touched j) e ≡ true → row_of entries e ≢ []
  row_there e j lt h empty =
      let one : is_in (positions_in (row_of entries e)) j ≡ true = in_row entries e j ∙ has_from e j lt h in
      let nothing : is_in (positions_in []) j ≡ true = rw empty at one in
      cc
