-- The packings of all arrays, where each is moved or isn't.
use Rattle.std.proofs.Common.{inl, inr, ◌≡◌, ℕ, zero, suc, ◌+◌, ◌-◌, ◌<◌, ◌≤◌, ◌^◌, Option, None, Some, List, [], ◌∷◌, All, length, get_or, drop, slice_get, ext_get_or, refl, sym, ap, ◌∙◌, subst, add-one, drop-cons, arith}
use Rattle.std.proofs.lemmas.List.FromFn.{get_or-range_with_len, length-range_with_len}
use Rattle.std.proofs.lemmas.List.Sums.{get_or-le-sum_by, sum_by-cons}
use Rattle.std.proofs.lemmas.Bool.{cases_lt, le-ltb, lt-ltb}
use Rattle.std.proofs.lemmas.List.{get_or-map, get_or_past, length-map}
use Rattle.std.proofs.lemmas.Option.{get_or_from_slice_get, slice_get_within}
use Rattle.spf_perm.specs.Perm.{IsPerm, at}
use Rattle.spf_perm.proofs.Bijections.{identity_is_perm}
use Rattle.spf_space.specs.Layout.{cells_in}
use Rattle.spf_space.specs.declared.shape.ArrayShape.{ArrayShape}
use Rattle.spf_pack.specs.Packing.{HavePackings, packed_element}
use Rattle.spf_exec.specs.Executor.{IsOfMoved, moved_to}
use Rattle.spf_exec.specs.Moves.{AreMovesOf, IsMove, IsMoveOf, lengths, packing_by, packings_from, packings_of}

pub length_by : (of : Option (List ℕ)) (count : ℕ) → IsMoveOf count of → length (packing_by of count) ≡ count
length_by None count is = length-range_with_len 0 count
length_by (Some moves) count is = is.0

pub at_by : (of : Option (List ℕ)) (count place : ℕ) → place < count → at (packing_by of count) place ≡ moved_to of place
at_by None count place inside = get_or-range_with_len 0 count place 0 inside ∙ omega arith
at_by (Some moves) count place inside = refl

pub perm_by : (of : Option (List ℕ)) (count : ℕ) → count < 2 ^ 32 → IsMoveOf count of → IsPerm (packing_by of count)
perm_by None count few is = identity_is_perm count few
perm_by (Some moves) count few is = is.1

pub moved_below : (of : Option (List ℕ)) (count place : ℕ) → IsMoveOf count of → place < count → moved_to of place < count
moved_below None count place is inside = inside
moved_below (Some moves) count place is inside = let below = is.1.below place (omega (arith, is.0, inside)) in omega (arith, below, is.0)

abbrev pub length_of : ArrayShape → ℕ
length_of array = array.length

first_array : (packing : List ℕ) (packings : List (List ℕ)) (e : ℕ) → e < length packing → packed_element (packing ∷ packings) e ≡ at packing e
first_array packing packings e inside = rw (lt-ltb e (length packing) inside) refl

later_array : (packing : List ℕ) (packings : List (List ℕ)) (e : ℕ) → length packing ≤ e → packed_element (packing ∷ packings) e ≡ length packing + packed_element packings (e - length packing)
later_array packing packings e behind = rw (le-ltb e (length packing) behind) refl

-- the array of this number, and those behind it
module _ (moves : List (Option (List ℕ))) (arrays : List ArrayShape) (n : ℕ) (array : ArrayShape) (there : n < length arrays) (is : array ≡ get_or arrays n array) where
  split : drop n arrays ≡ array ∷ drop (n + 1) arrays
  split = drop-cons arrays n array there ∙ (λ i. sym is i ∷ drop (sym (add-one n) i) arrays)

  pub cells_from : cells_in (drop n arrays) ≡ array.length + cells_in (drop (n + 1) arrays)
  cells_from = ap cells_in split ∙ sum_by-cons length_of array (drop (n + 1) arrays)

  module _ (move : IsMoveOf array.length (get_or moves n None)) (place : ℕ) where
    pub in_array : place < array.length → packed_element (packings_from moves n (drop n arrays)) place ≡ moved_to (get_or moves n None) place
    in_array inside =
        let long = length_by (get_or moves n None) array.length move in
        ap (λ (of : List ArrayShape). packed_element (packings_from moves n of) place) split
        ∙ first_array (packing_by (get_or moves n None) array.length) (packings_from moves (n + 1) (drop (n + 1) arrays)) place (omega (arith, long, inside))
        ∙ at_by (get_or moves n None) array.length place inside

    pub behind_array : array.length ≤ place → packed_element (packings_from moves n (drop n arrays)) place ≡ array.length + packed_element (packings_from moves (n + 1) (drop (n + 1) arrays)) (place - array.length)
    behind_array behind =
        let one = packing_by (get_or moves n None) array.length in
        let rest = packings_from moves (n + 1) (drop (n + 1) arrays) in
        let long = length_by (get_or moves n None) array.length move in
        ap (λ (of : List ArrayShape). packed_element (packings_from moves n of) place) split
        ∙ later_array one rest place (omega (arith, long, behind)) ∙ ap (λ count. count + packed_element rest (place - count)) long

pub is_move : (of : Option (List ℕ)) (count : ℕ) → IsMoveOf count of → IsMove of
is_move None count is = tt
is_move (Some moves) count is = is.1

pub move_at : (counts : List ℕ) (moves : List (Option (List ℕ))) (n count : ℕ) → AreMovesOf counts moves → n < length counts → get_or counts n 0 ≡ count → IsMoveOf count (get_or moves n None)
move_at counts moves n count are there is = subst (λ (of : ℕ). IsMoveOf of (get_or moves n None)) is (are.each n there)

-- ---- all packings

pub of_moved : (of : Option (List ℕ)) (count place : ℕ) → IsMoveOf count of → place < count → IsOfMoved of place
of_moved None count place is inside = tt
of_moved (Some moves) count place is inside = omega (arith, is.0, inside)

element_at : {A : Type 0} (xs : List A) (n : ℕ) → n < length xs → (x : A) × (slice_get xs n ≡ Some x)
element_at [] n inside = absurd (omega arith)
element_at (x ∷ xs) zero inside = (x, refl)
element_at (x ∷ xs) (suc n) inside = element_at xs n (omega (arith, inside))

as_many_from : (moves : List (Option (List ℕ))) (number : ℕ) (arrays : List ArrayShape) → length (packings_from moves number arrays) ≡ length arrays
as_many_from moves number [] = refl
as_many_from moves number (array ∷ arrays) = ap suc (as_many_from moves (number + 1) arrays)

packing_from : (moves : List (Option (List ℕ))) (number n : ℕ) (arrays : List ArrayShape) (array : ArrayShape) → slice_get arrays n ≡ Some array →
    slice_get (packings_from moves number arrays) n ≡ Some (packing_by (get_or moves (number + n) None) array.length)
packing_from moves number n [] array at = cc
packing_from moves number zero (first ∷ arrays) array at =
    let same : first ≡ array = cc in
    let here : number ≡ number + 0 = omega arith in
    λ i. Some (packing_by (get_or moves (here i) None) (length_of (same i)))
packing_from moves number (suc n) (first ∷ arrays) array at =
    let there : number + 1 + n ≡ number + suc n = omega arith in
    packing_from moves (number + 1) n arrays array at ∙ ap (λ (of : ℕ). Some (packing_by (get_or moves of None) array.length)) there

-- packings that are as long as the arrays are those of arrays
pub have_lengths : (arrays : List ArrayShape) (packs : List (List ℕ)) → length packs ≡ length arrays →
    ((n : ℕ) (array : ArrayShape) → slice_get arrays n ≡ Some array → length (get_or packs n []) ≡ array.length) → HavePackings arrays packs
have_lengths [] [] same each = refl
have_lengths [] (pack ∷ packs) same each = absurd (omega (arith, same))
have_lengths (array ∷ arrays) [] same each = absurd (omega (arith, same))
have_lengths (array ∷ arrays) (pack ∷ packs) same each =
    λ i. each 0 array refl i ∷ have_lengths arrays packs (omega (arith, same)) (λ n later there. each (suc n) later there) i

module _ (moves : List (Option (List ℕ))) (arrays : List ArrayShape) where
  pub packing_at : (n : ℕ) (array : ArrayShape) → slice_get arrays n ≡ Some array → slice_get (packings_of moves arrays) n ≡ Some (packing_by (get_or moves n None) array.length)
  packing_at n array at =
      let number : 0 + n ≡ n = omega arith in
      packing_from moves 0 n arrays array at ∙ ap (λ (of : ℕ). Some (packing_by (get_or moves of None) array.length)) number

  packing_is : (n : ℕ) (array : ArrayShape) (d : List ℕ) → slice_get arrays n ≡ Some array → get_or (packings_of moves arrays) n d ≡ packing_by (get_or moves n None) array.length
  packing_is n array d at = get_or_from_slice_get (packings_of moves arrays) n (packing_by (get_or moves n None) array.length) d (packing_at n array at)

  -- these are the packings, where each is that of its array
  pub packings_are : (packs : List (List ℕ)) → length packs ≡ length arrays →
      ((n : ℕ) (array : ArrayShape) → slice_get arrays n ≡ Some array → packing_by (get_or moves n None) array.length ≡ get_or packs n []) → packings_of moves arrays ≡ packs
  packings_are packs same each =
      let count = as_many_from moves 0 arrays in
      ext_get_or [] (packings_of moves arrays) packs (count ∙ sym same)
      (λ n inside. let of = element_at arrays n (omega (arith, inside, count)) in packing_is n of.0 [] of.1 ∙ each n of.0 of.1)

  module _ (are : AreMovesOf (lengths arrays) moves) where
    pub array_move : (n : ℕ) (array : ArrayShape) → slice_get arrays n ≡ Some array → IsMoveOf array.length (get_or moves n None)
    array_move n array at =
        let there = slice_get_within arrays n array at in
        move_at (lengths arrays) moves n array.length are (omega (arith, there, length-map arrays length_of))
        (get_or-map length_of arrays n array 0 there ∙ ap length_of (get_or_from_slice_get arrays n array array at))

    pub have_packings : HavePackings arrays (packings_of moves arrays)
    have_packings =
        have_lengths arrays (packings_of moves arrays) (as_many_from moves 0 arrays)
        (λ n array at. ap (λ (packing : List ℕ). length packing) (packing_is n array [] at) ∙ length_by (get_or moves n None) array.length (array_move n array at))

    pub all_perms : cells_in arrays < 2 ^ 32 → All IsPerm (packings_of moves arrays)
    all_perms few n d inside =
        let of = element_at arrays n (omega (arith, inside, as_many_from moves 0 arrays)) in
        let array : ArrayShape = of.0 in
        let total = get_or-le-sum_by length_of arrays n array (slice_get_within arrays n array of.1) in
        let small : array.length < 2 ^ 32 = omega (arith, few, total, ap length_of (get_or_from_slice_get arrays n array array of.1)) in
        subst IsPerm (sym (packing_is n array d of.1)) (perm_by (get_or moves n None) array.length small (array_move n array of.1))

-- no loop or array has another move
pub any_move : (counts : List ℕ) (moves : List (Option (List ℕ))) → AreMovesOf counts moves → (n : ℕ) → IsMove (get_or moves n None)
any_move counts moves are n = elim (cases_lt n (length counts)) [
  | inl inside ↦ is_move (get_or moves n None) (get_or counts n 0) (are.each n inside)
  | inr past ↦ subst IsMove (sym (get_or_past moves n None (omega (arith, are.as_many, past)))) tt
]
