-- Places of names in lists of loops and arrays.
use Rattle.std.proofs.Common.{◌≡◌, ◌+◌, ◌<◌, Bool, true, false, not, ◌&&◌, ◌||◌, cond, List, [], ◌∷◌, length, position, unwrap_or, arith, refl}
use Rattle.std.specs.List.{list_any, position_or_len}
use Rattle.std.proofs.lemmas.Grind.{common_steps}
use Rattle.std.proofs.lemmas.List.Sums.{prefix_len-le-length}

-- the place of the first that passes, or how many there are
pub place_or_len : {A : Type 0} (p : A → Bool) (xs : List A) → unwrap_or (position p xs) (length xs) ≡ position_or_len p xs
place_or_len p xs =
    let e = prefix_len-le-length (λ x. not (p x)) xs in
    grind (arith, common_steps)

-- where one passes, the first that does stands within the list
pub place_within : {A : Type 0} (p : A → Bool) (xs : List A) → list_any p xs ≡ true → position_or_len p xs < length xs
place_within p [] any = cc
place_within p (x ∷ xs) any = by (p x) any (place_within p xs) where
  by : (b : Bool) → (b || list_any p xs) ≡ true → (list_any p xs ≡ true → position_or_len p xs < length xs)
      → cond (not b) (1 + position_or_len p xs) 0 < length (x ∷ xs)
  by true any within = omega arith
  by false any within = let h = within any in omega arith

pub left_true : (a b : Bool) → (a && b) ≡ true → a ≡ true
left_true true b e = refl
left_true false b e = cc
