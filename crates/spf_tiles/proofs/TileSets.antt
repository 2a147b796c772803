-- Bits of tables of sets of tiles.
use Rattle.std.proofs.Common.{◌≡◌, ℕ, ◌+◌, ◌*◌, ◌/◌, ◌%◌, ◌^◌, ◌<◌, ◌≤◌, ◌⊎◌, ◌↔◌, List, length, set, get_or, replicate, max, inl, inr, refl, sym, ap, ◌∙◌, w64, arith}
use Rattle.std.proofs.lemmas.Bool.{cases_eq, cases_lt}
use Rattle.std.proofs.lemmas.List.{get_or_past, get_or-replicate, get_or-set_other, get_or-set_same, length-replicate}
use Rattle.std.proofs.lemmas.Nat.Bits.{bit_at-lt, bit_at-zero, bit_at_or, bit_at_set_other, bit_at_set_same}
use Rattle.std.specs.Int.{bit_at}
use Rattle.std.specs.Prelude.{bit_or}
use Rattle.spf_tiles.specs.TileSets.{AreAdded, Has}

pub none_has : (n c d : ℕ) → Has (replicate n 0) c d → ⊥
unfolding Has
none_has n c d has =
    let i : ℕ = d * 16 + c / 64 in
    let words : List ℕ = replicate n 0 in
    let word : get_or words i 0 ≡ 0 = elim (cases_lt i n) [
      | inl inside ↦ get_or-replicate n i 0 0 inside
      | inr past ↦ get_or_past words i 0 (rw length-replicate past)
    ] in
    let bit : bit_at (get_or words i 0) (c % 64) ≡ 0 = rw word (bit_at-zero (c % 64)) in
    omega (arith, bit, has)

unchanged : (x y : ℕ) (R : Type 0) → x ≡ y → (R → ⊥) → (x ≡ 1) ↔ ((y ≡ 1) ⊎ R)
unchanged x y R same not = (λ h. inl (sym same ∙ h), λ h. elim h [ inl was ↦ same ∙ was | inr r ↦ absurd (not r) ])

pub set_added : (table : List ℕ) (row tile : ℕ) → tile < 1024 → row * 16 + 16 ≤ length table →
    AreAdded table (set table (row * 16 + tile / 64) (bit_or (get_or table (row * 16 + tile / 64) 0) (1 * 2 ^ (tile % 64) % 2 ^ 64))) (λ c d. (d ≡ row) × (c ≡ tile))
unfolding Has
set_added table row tile few room c d low =
    let i : ℕ = row * 16 + tile / 64 in
    let bit : ℕ = tile % 64 in
    let old : ℕ = get_or table i 0 in
    let new : ℕ = bit_or old (1 * 2 ^ bit % 2 ^ 64) in
    elim (cases_eq (d * 16 + c / 64) i) [
      | inl same ↦
          let word : get_or (set table i new) (d * 16 + c / 64) 0 ≡ new = rw same (get_or-set_same table i new 0 (omega arith)) in
          let was : get_or table (d * 16 + c / 64) 0 ≡ old = rw same refl in
          elim (cases_eq (c % 64) bit) [
            | inl here ↦ (λ h. inr (omega arith, omega arith), λ h. rw (word, here) (bit_at_set_same w64 old bit (omega arith)))
            | inr other ↦ rw (word, was) (unchanged _ _ _ (bit_at_set_other w64 old bit (omega arith) (c % 64) other) (λ h. other (ap (λ x. x % 64) h.1)))
          ]
      | inr apart ↦
          unchanged _ _ _ (ap (λ x. bit_at x (c % 64)) (get_or-set_other table i (d * 16 + c / 64) new 0 apart))
          (λ h. apart (rw (h.0, h.1) refl))
    ]

pub united : (old new other : List ℕ) (row source : ℕ) →
    ((j : ℕ) → j < 16 → get_or new (row * 16 + j) 0 ≡ bit_or (get_or old (row * 16 + j) 0) (get_or other (source * 16 + j) 0)) →
    ((j : ℕ) → (j < row * 16) ⊎ (row * 16 + 16 ≤ j) → get_or new j 0 ≡ get_or old j 0) → AreAdded old new (λ c d. (d ≡ row) × Has other c source)
unfolding Has
united old new other row source each rest c d low = elim (cases_eq d row) [
  | inl same ↦
      let j : ℕ = c / 64 in
      let bit : ℕ = c % 64 in
      let one : ℕ = bit_at (get_or old (row * 16 + j) 0) bit in
      let two : ℕ = bit_at (get_or other (source * 16 + j) 0) bit in
      let word : bit_at (get_or new (row * 16 + j) 0) bit ≡ max one two =
      ap (λ x. bit_at x bit) (each j (omega arith)) ∙ bit_at_or (get_or old (row * 16 + j) 0) (get_or other (source * 16 + j) 0) bit in
      let small : one < 2 = bit_at-lt (get_or old (row * 16 + j) 0) bit in
      let few : two < 2 = bit_at-lt (get_or other (source * 16 + j) 0) bit in
      rw same (
        λ h. elim (cases_eq one 1) [ inl was ↦ inl was | inr not ↦ inr (refl, omega (arith, h, word)) ],
        λ h. word ∙ elim h [ inl was ↦ omega arith | inr is ↦ omega (arith, is.1) ],
      )
  | inr apart ↦
      let out : (d * 16 + c / 64 < row * 16) ⊎ (row * 16 + 16 ≤ d * 16 + c / 64) = elim (cases_lt d row) [ inl less ↦ inl (omega arith) | inr more ↦ inr (omega arith) ] in
      unchanged _ _ _ (ap (λ x. bit_at x (c % 64)) (rest (d * 16 + c / 64) out)) (λ h. apart h.0)
]
