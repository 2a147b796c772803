-- A marker for each entry says where it was seen, counted from 1.
use Rattle.std.proofs.Common.{◌≡◌, ℕ, ◌+◌, ◌-◌, ◌<◌, ◌≤◌, ◌≢◌, List, length, slice_set, sym, ap, ◌∙◌, inl, inr, arith}
use Rattle.std.proofs.lemmas.Bool.{cases_eq}
use Rattle.std.proofs.lemmas.List.{get_or-set_same, get_or-set_other, length-set}
use Rattle.spf_perm.specs.Perm.{at, AreDistinct, AreInside, IsFirstRepeat}

-- the entry's marker says where it stands, and it stands among the first entries
abbrev pub HasSeen : List ℕ → ℕ → List ℕ → ℕ → Type 0
HasSeen list count markers entry = (at markers entry ≤ count) × (at list (at markers entry - 1) ≡ entry)

pub record AreSeen (list : List ℕ) (count : ℕ) (markers : List ℕ) : Type 0 where
  pub long : length markers ≡ length list
  pub marked : (e : ℕ) → e < count → at markers (at list e) ≡ e + 1
  pub true : (entry : ℕ) → 0 < at markers entry → HasSeen list count markers entry

-- entries with markers are distinct
pub seen_distinct : (list : List ℕ) (count : ℕ) (markers : List ℕ) → AreSeen list count markers → AreDistinct list count
seen_distinct list count markers seen d e ltd lte same =
    let both : at markers (at list d) ≡ at markers (at list e) = ap (at markers) same in
    omega (arith, both, seen.marked d ltd, seen.marked e lte)

pub seen_more : (list : List ℕ) (count : ℕ) (markers : List ℕ) → AreInside list (length list) → count < length list → at markers (at list count) ≡ 0
    → AreSeen list count markers → AreSeen list (count + 1) (slice_set markers (at list count) (count + 1))
seen_more list count markers inside lt none seen = record {
  long = length-set markers (at list count) (count + 1) ∙ seen.long;
  marked = λ e within. elim (cases_eq (at list e) (at list count)) [
    | inl same ↦ elim (cases_eq e count) [
      | inl last ↦ rw last here
      | inr earlier ↦
          let old : at markers (at list e) ≡ at markers (at list count) = ap (at markers) same in
          absurd (omega (arith, old, none, seen.marked e (omega arith)))
    ]
    | inr other ↦ there (at list e) other ∙ seen.marked e (earlier e within other)
  ];
  true = λ entry positive. elim (cases_eq entry (at list count)) as (λ _. HasSeen list (count + 1) (slice_set markers (at list count) (count + 1)) entry) [
    | inl same ↦
        let e : at (slice_set markers (at list count) (count + 1)) entry ≡ count + 1 = rw same here in
        let l : count + 1 - 1 ≡ count = omega arith in
        (omega (arith, e), rw (e, l) (sym same))
    | inr other ↦
        let e = there entry other in
        let t = seen.true entry (omega (arith, e)) in
        (omega (arith, e, t.0), rw e t.1)
  ];
}
  where
    here : at (slice_set markers (at list count) (count + 1)) (at list count) ≡ count + 1
    here = get_or-set_same markers (at list count) (count + 1) 0 (omega (arith, seen.long, inside count lt))

    there : (entry : ℕ) → entry ≢ at list count → at (slice_set markers (at list count) (count + 1)) entry ≡ at markers entry
    there entry other = get_or-set_other markers (at list count) entry (count + 1) 0 other

    earlier : (e : ℕ) → e < count + 1 → at list e ≢ at list count → e < count
    earlier e within other = elim (cases_eq e count) [ inl same ↦ absurd (other (ap (at list) same)) | inr apart ↦ omega arith ]

-- an entry that is marked already is the first repeat
pub seen_repeat : (list : List ℕ) (count : ℕ) (markers : List ℕ) (marker : ℕ) → count < length list → at markers (at list count) ≡ marker → marker ≢ 0
    → AreSeen list count markers → IsFirstRepeat list (marker - 1) count
seen_repeat list count markers marker lt is some seen =
    let t = seen.true (at list count) (omega arith) in
    record {
      order = omega (arith, t.0);
      there = lt;
      same = rw is at t.1;
      least = seen_distinct list count markers seen;
    }
