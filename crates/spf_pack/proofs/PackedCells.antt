-- Elements of arrays that lie one behind the other, and where they are packed.
use Rattle.std.proofs.Common.{◌≡◌, ℕ, zero, suc, ◌+◌, ◌-◌, ◌<◌, ◌≤◌, ℤ, pos, false, List, [], ◌∷◌, ◌++◌, length, get_or, drop, slice_get, Some, inl, inr, refl, sym, ap, ◌∙◌, arith, ltb, add-one, drop-cons}
use Rattle.std.proofs.lemmas.Bool.{cases_lt, le-ltb, lt-ltb}
use Rattle.std.proofs.lemmas.List.{get_or_append_left, get_or-append_right, get_or-drop, get_or-take, get_or_past}
use Rattle.std.proofs.lemmas.List.Sums.{sum_by-cons}
use Rattle.std.specs.List.{AllByRecursion, slice_range}
use Rattle.spf_perm.specs.Perm.{IsPerm, at}
use Rattle.spf_space.specs.Layout.{AreAdjacent, cells_in}
use Rattle.spf_space.specs.declared.shape.ArrayShape.{ArrayShape}
use Rattle.spf_pack.specs.Packing.{HavePackings, cells_of, packed_element}

-- an element of the first array, and one behind it
pub first_array : (packing : List ℕ) (packings : List (List ℕ)) (e : ℕ) → e < length packing → packed_element (packing ∷ packings) e ≡ at packing e
first_array packing packings e inside = rw (lt-ltb e (length packing) inside) refl

pub later_array : (packing : List ℕ) (packings : List (List ℕ)) (e : ℕ) → packed_element (packing ∷ packings) (length packing + e) ≡ length packing + packed_element packings e
later_array packing packings e =
    let past : ltb (length packing + e) (length packing) ≡ false = le-ltb (length packing + e) (length packing) (omega arith) in
    let rest : length packing + e - length packing ≡ e = omega arith in
    rw (past, rest) refl

pub stays_behind : (packings : List (List ℕ)) (e : ℕ) → cells_of packings ≤ e → packed_element packings e ≡ e
stays_behind [] e behind = refl
stays_behind (packing ∷ packings) e behind =
    let total = sum_by-cons length packing packings in
    let from : length packing + (e - length packing) ≡ e = omega (arith, total) in
    ap (packed_element (packing ∷ packings)) (sym from) ∙ later_array packing packings (e - length packing)
    ∙ ap (λ more. length packing + more) (stays_behind packings (e - length packing) (omega (arith, total))) ∙ from

pub stays_below : (packings : List (List ℕ)) → AllByRecursion IsPerm packings → (e : ℕ) → e < cells_of packings → packed_element packings e < cells_of packings
stays_below [] perms e below = absurd (omega arith)
stays_below (packing ∷ packings) perms e below =
    let total = sum_by-cons length packing packings in
    elim (cases_lt e (length packing)) [
      | inl inside ↦ omega (arith, total, first_array packing packings e inside, perms.0.below e inside)
      | inr behind ↦
          let from : length packing + (e - length packing) ≡ e = omega arith in
          let there : packed_element (packing ∷ packings) e ≡ length packing + packed_element packings (e - length packing) =
          ap (packed_element (packing ∷ packings)) (sym from) ∙ later_array packing packings (e - length packing) in
          omega (arith, total, there, stays_below packings perms.1 (e - length packing) (omega (arith, total)))
    ]

pub cells_same : (arrays : List ArrayShape) (packings : List (List ℕ)) → HavePackings arrays packings → cells_of packings ≡ cells_in arrays
cells_same [] [] have = refl
cells_same [] (packing ∷ packings) have = cc
cells_same (array ∷ arrays) [] have = cc
cells_same (array ∷ arrays) (packing ∷ packings) have =
    let here : length packing ≡ array.length = cc in
    let more : HavePackings arrays packings = cc in
    omega (arith, sum_by-cons length packing packings, sum_by-cons (λ (each : ArrayShape). each.length) array arrays, here, cells_same arrays packings more)

-- an element of an array, where the first array begins at `from`
pub in_array : (arrays : List ArrayShape) (packings : List (List ℕ)) (from number place : ℕ) (array : ArrayShape) (packing : List ℕ) →
    AreAdjacent from arrays → HavePackings arrays packings → slice_get arrays number ≡ Some array → slice_get packings number ≡ Some packing → place < array.length →
    (before : ℕ) × (array.start ≡ from + before) × (packed_element packings (before + place) ≡ before + at packing place)
in_array [] packings from number place array packing adjacent have there packs inside = cc
in_array (first ∷ arrays) [] from number place array packing adjacent have there packs inside = cc
in_array (first ∷ arrays) (one ∷ packings) from zero place array packing adjacent have there packs inside =
    let is : first ≡ array = cc in
    let its : one ≡ packing = cc in
    let long : length one ≡ first.length = cc in
    let start : first.start ≡ array.start = ap (λ (each : ArrayShape). each.start) is in
    let same : first.length ≡ array.length = ap (λ (each : ArrayShape). each.length) is in
    let whole : 0 + place ≡ place = omega arith in
    let there : packed_element (one ∷ packings) place ≡ at packing place = first_array one packings place (omega (arith, long, same)) ∙ ap (λ list. at list place) its in
    (0, omega (arith, adjacent.0, start), ap (packed_element (one ∷ packings)) whole ∙ omega (arith, there))
in_array (first ∷ arrays) (one ∷ packings) from (suc number) place array packing adjacent have there packs inside =
    let long : length one ≡ first.length = cc in
    let more : HavePackings arrays packings = cc in
    let rest = in_array arrays packings (from + first.length) number place array packing adjacent.1 more there packs inside in
    let over : length one + rest.0 + place ≡ length one + (rest.0 + place) = omega arith in (
      length one + rest.0,
      omega (arith, rest.1, long),
      ap (packed_element (one ∷ packings)) over ∙ later_array one packings (rest.0 + place) ∙ omega (arith, rest.2),
    )

-- ---- a walk over the arrays

abbrev value : List ℤ → ℕ → ℤ
value cells e = get_or cells e (pos 0)

pub in_middle : (before cells after : List ℤ) (start e : ℕ) → length before ≡ start → e < length cells → value (before ++ (cells ++ after)) (start + e) ≡ value cells e
in_middle before cells after start e long inside =
    let back : start + e - start ≡ e = omega arith in
    get_or-append_right before (cells ++ after) start (start + e) (pos 0) long (omega arith) ∙ ap (value (cells ++ after)) back ∙ get_or_append_left cells after (pos 0) e inside

pub in_range : (cells : List ℤ) (start end e : ℕ) → start + e < end → value (slice_range cells start end) e ≡ value cells (start + e)
in_range cells start end e inside = get_or-take (end - start) (drop start cells) e (pos 0) (omega arith) ∙ get_or-drop start cells e (pos 0)

pub next_of : (packings : List (List ℕ)) (number : ℕ) (packing : List ℕ) → number < length packings → packing ≡ get_or packings number packing →
    drop number packings ≡ packing ∷ drop (number + 1) packings
next_of packings number packing inside is = rw (add-one number) (drop-cons packings number packing inside ∙ ap (λ first. first ∷ drop (suc number) packings) (sym is))

pub none_left : (packings : List (List ℕ)) (number : ℕ) → length packings ≤ number → drop number packings ≡ []
none_left [] zero past = refl
none_left [] (suc number) past = refl
none_left (packing ∷ packings) zero past = absurd (omega arith)
none_left (packing ∷ packings) (suc number) past = none_left packings number (omega arith)

-- the first arrays take the elements below `start`, and these are the packings of the other ones
pub record AreAhead (packings rest : List (List ℕ)) (start count : ℕ) : Type 0 where
  pub all : start + cells_of rest ≡ count
  pub behind : (e : ℕ) → packed_element packings (start + e) ≡ start + packed_element rest e

pub all_ahead : (packings : List (List ℕ)) (count : ℕ) → count ≡ cells_of packings → AreAhead packings packings 0 count
all_ahead packings count is = record { all = omega (arith, is); behind = λ e. let whole : 0 + e ≡ e = omega arith in ap (packed_element packings) whole ∙ omega arith }

pub one_less : (packings rest : List (List ℕ)) (packing : List ℕ) (start count : ℕ) → AreAhead packings (packing ∷ rest) start count →
    AreAhead packings rest (start + length packing) count
one_less packings rest packing start count ahead = record {
  all = omega (arith, ahead.all, sum_by-cons length packing rest);
  behind = λ e.
      let over : start + length packing + e ≡ start + (length packing + e) = omega arith in
      ap (packed_element packings) over ∙ ahead.behind (length packing + e) ∙ omega (arith, later_array packing rest e);
}

-- the packing is that of the array that begins at `start`
pub here_ahead : (packings rest : List (List ℕ)) (packing : List ℕ) (start count : ℕ) → AreAhead packings (packing ∷ rest) start count →
    (start + length packing ≤ count) × ((e : ℕ) → e < length packing → packed_element packings (start + e) ≡ start + at packing e)
here_ahead packings rest packing start count ahead = (
  omega (arith, ahead.all, sum_by-cons length packing rest),
  λ e inside. ahead.behind e ∙ omega (arith, first_array packing rest e inside),
)

-- the elements so far are unpacked
abbrev pub AreUnpacked : List (List ℕ) → List ℤ → List ℤ → ℕ → Type 0
AreUnpacked packings cells out start = (e : ℕ) → e < start → value out e ≡ value cells (packed_element packings e)

pub unpacked_more : (packings rest : List (List ℕ)) (packing : List ℕ) (start : ℕ) (cells old new : List ℤ) → AreAhead packings (packing ∷ rest) start (length cells) →
    ((e : ℕ) → e < length packing → value new (start + e) ≡ value cells (start + at packing e)) → ((e : ℕ) → e < start → value new e ≡ value old e) →
    AreUnpacked packings cells old start → AreUnpacked packings cells new (start + length packing)
unpacked_more packings rest packing start cells old new ahead moved kept done e within = elim (cases_lt e start) [
  | inl earlier ↦ kept e earlier ∙ done e earlier
  | inr here ↦
      let from : start + (e - start) ≡ e = omega arith in
      let inside : e - start < length packing = omega arith in
      let place = (here_ahead packings rest packing start (length cells) ahead).1 (e - start) inside in
      ap (value new) (sym from) ∙ moved (e - start) inside ∙ ap (value cells) (sym place ∙ ap (packed_element packings) from)
]

pub unpacked_all : (packings : List (List ℕ)) (start : ℕ) (cells out : List ℤ) → AreAhead packings [] start (length cells) → length cells ≡ cells_of packings →
    length out ≡ length cells → AreUnpacked packings cells out start → (e : ℕ) → value out e ≡ value cells (packed_element packings e)
unpacked_all packings start cells out ahead total long done e = elim (cases_lt e start) [
  | inl inside ↦ done e inside
  | inr behind ↦
      let all : start + 0 ≡ length cells = ahead.all in
      get_or_past out e (pos 0) (omega (arith, all, long))
      ∙ sym (get_or_past cells e (pos 0) (omega (arith, all))) ∙ ap (value cells) (sym (stays_behind packings e (omega (arith, all, total))))
]

-- the elements so far are packed, among themselves
pub record ArePacked (packings : List (List ℕ)) (cells moved : List ℤ) (start : ℕ) : Type 0 where
  pub below : (e : ℕ) → e < start → packed_element packings e < start
  pub done : (e : ℕ) → e < start → value moved (packed_element packings e) ≡ value cells e

pub packed_more : (packings rest : List (List ℕ)) (packing : List ℕ) (start : ℕ) (cells old new : List ℤ) → AreAhead packings (packing ∷ rest) start (length cells) →
    ((e : ℕ) → e < length packing → value new (start + at packing e) ≡ value cells (start + e)) → ((e : ℕ) → e < start → value new e ≡ value old e) →
    IsPerm packing → ArePacked packings cells old start → ArePacked packings cells new (start + length packing)
packed_more packings rest packing start cells old new ahead moved kept perm packed = record {
  below = λ e within. elim (cases_lt e start) [
    | inl earlier ↦ omega (arith, packed.below e earlier)
    | inr here ↦ let inside : e - start < length packing = omega arith in omega (arith, there e within here, perm.below (e - start) inside)
  ];
  done = λ e within. elim (cases_lt e start) [
    | inl earlier ↦ kept (packed_element packings e) (packed.below e earlier) ∙ packed.done e earlier
    | inr here ↦
        let from : start + (e - start) ≡ e = omega arith in
        ap (value new) (there e within here) ∙ moved (e - start) (omega arith) ∙ ap (value cells) from
  ];
}
  where
    there : (e : ℕ) → e < start + length packing → start ≤ e → packed_element packings e ≡ start + at packing (e - start)
    there e within here =
        let from : start + (e - start) ≡ e = omega arith in
        ap (packed_element packings) (sym from) ∙ (here_ahead packings rest packing start (length cells) ahead).1 (e - start) (omega arith)

pub packed_all : (packings : List (List ℕ)) (start : ℕ) (cells moved : List ℤ) → AreAhead packings [] start (length cells) → length cells ≡ cells_of packings →
    length moved ≡ length cells → ArePacked packings cells moved start → (e : ℕ) → value moved (packed_element packings e) ≡ value cells e
packed_all packings start cells moved ahead total long packed e = elim (cases_lt e start) [
  | inl inside ↦ packed.done e inside
  | inr behind ↦
      let all : start + 0 ≡ length cells = ahead.all in
      ap (value moved) (stays_behind packings e (omega (arith, all, total))) ∙ get_or_past moved e (pos 0) (omega (arith, all, long))
      ∙ sym (get_or_past cells e (pos 0) (omega (arith, all)))
]
