-- Places of elements in listed arrays.
use Rattle.std.proofs.Common.{◌≡◌, ℕ, suc, ◌+◌, ◌-◌, ◌<◌, ◌&&◌, List, [], ◌∷◌, length, get_or, drop, All, slice_get, Option, Some, None, nat_le, nat_lt, inl, inr, refl, sym, ap, ◌∙◌, arith}
use Rattle.std.proofs.lemmas.Bool.{cases_Bool, and_parts, ltb-true}
use Rattle.std.proofs.lemmas.List.{at_drop_more, get_or_default}
use Rattle.std.proofs.lemmas.Option.{slice_get-get_or, slice_get_within}
use Rattle.spf_perm.specs.Perm.{at}
use Rattle.spf_space.specs.declared.shape.ArrayShape.{ArrayShape}
use Rattle.spf_pack.specs.FirstTouch.{member_place, or_else, place_in}
use Rattle.spf_pack.specs.Packs.{IsArrayOf, first_packing}

-- the next array has the element, or the others are looked at
pub member_more : (arrays : List ArrayShape) (members : List ℕ) (i element : ℕ) (array : ArrayShape) (place : Option ℕ) → i < length members → get_or members i 0 < length arrays →
    array ≡ get_or arrays (get_or members i 0) array → place ≡ place_in (Some array) element →
    member_place arrays (drop i members) element ≡ or_else place (member_place arrays (drop (i + 1) members) element)
member_more arrays members i element array place lt inside is found =
    let there : slice_get arrays (get_or members i 0) ≡ Some array = slice_get-get_or arrays (get_or members i 0) array inside ∙ ap Some (sym is) in
    at_drop_more (λ l. member_place arrays l element) members i 0 lt ∙ ap (λ here. or_else here (member_place arrays (drop (i + 1) members) element)) (ap (λ shape. place_in shape element) there ∙ sym found)

some_same : (a b : ℕ) → Some a ≡ Some b → a ≡ b
some_same a b e = cc

place_within : (array : ArrayShape) (element place : ℕ) → place_in (Some array) element ≡ Some place → place < array.length
place_within array element place h = elim (cases_Bool (nat_le array.start element && nat_lt (element - array.start) array.length)) [
  | inl inside ↦
      let parts = and_parts (nat_le array.start element) (nat_lt (element - array.start) array.length) inside in
      let same = some_same (element - array.start) place (rw inside at h) in
      omega (arith, same, ltb-true (element - array.start) array.length parts.1)
  | inr outside ↦ let none = rw outside at h in cc
]

first_or_later : (array : ArrayShape) (count element place : ℕ) (here rest : Option ℕ) → array.length ≡ count → place_in (Some array) element ≡ here → (rest ≡ Some place → place < count) → or_else here rest ≡ Some place → place < count
first_or_later array count element place None rest long is later h = later h
first_or_later array count element place (Some other) rest long is later h = omega (arith, long, some_same other place h, place_within array element other is)

-- a place that is found is one of the arrays' places
pub place_below : (arrays : List ArrayShape) (count : ℕ) (members : List ℕ) (element place : ℕ) → All (IsArrayOf arrays count) members → member_place arrays members element ≡ Some place → place < count
place_below arrays count [] element place all found = cc
place_below arrays count (member ∷ members) element place all found =
    let first = all 0 0 (omega arith) in
    first_or_later first.0 count element place (place_in (Some first.0) element) (member_place arrays members element) first.2 refl
    (place_below arrays count members element place (λ k d lt. all (suc k) d (omega arith))) (rw first.1 at found)

pub members_there : (arrays : List ArrayShape) (count : ℕ) (members : List ℕ) → All (IsArrayOf arrays count) members → All (λ member. member < length arrays) members
members_there arrays count members all k d lt = let is = all k d lt in slice_get_within arrays (get_or members k d) is.0 is.1

-- the packing at the number of the first array
pub first_is : (members : List ℕ) (now : List (List ℕ)) (packing : List ℕ) → at members 0 < length now → packing ≡ get_or now (at members 0) packing → packing ≡ first_packing members now
first_is members now packing there is = is ∙ get_or_default now (at members 0) packing [] there
