-- Lists of names, seen by the bytes of each.
use Rattle.spf_kernel.proofs.Common.{◌≡◌, ◌+◌, Bool, List, [], ◌∷◌, map, ◌||◌, not, refl, ap, position, length, arith, common_steps, map_push, list_any, position_or_len, unwrap_or, insert_key, cond, prefix_len-le-length}

module _ {X Y : Type 0} (bytes : X → Y) where
  pub list_any-map : (test : Y → Bool) (xs : List X) → list_any test (map bytes xs) ≡ list_any (λ x. test (bytes x)) xs
  list_any-map test [] = refl
  list_any-map test (x ∷ xs) = ap (λ b. test (bytes x) || b) (list_any-map test xs)

  pub position_or_len-map : (test : Y → Bool) (xs : List X) → position_or_len test (map bytes xs) ≡ position_or_len (λ x. test (bytes x)) xs
  position_or_len-map test [] = refl
  position_or_len-map test (x ∷ xs) = ap (λ n. cond (not (test (bytes x))) (1 + n) 0) (position_or_len-map test xs)

  pub map-insert_key : (eq : Y → Y → Bool) (xs : List X) (x : X) → map bytes (insert_key (λ a b. eq (bytes a) (bytes b)) xs x) ≡ insert_key eq (map bytes xs) (bytes x)
  map-insert_key eq xs x =
      let e = list_any-map (eq (bytes x)) xs in
      let m = map_push bytes xs x in
      grind (arith, common_steps)

-- the place of the first that passes, or how many there are
pub unwrap_or-position : {X : Type 0} (test : X → Bool) (xs : List X) → unwrap_or (position test xs) (length xs) ≡ position_or_len test xs
unwrap_or-position test xs =
    let e = prefix_len-le-length (λ x. not (test x)) xs in
    grind (arith, common_steps)
