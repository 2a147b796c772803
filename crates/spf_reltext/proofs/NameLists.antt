-- Lists of names, seen by the bytes of each.
use Rattle.std.proofs.Common.{◌≡◌, ℕ, ◌+◌, Bool, List, [], ◌∷◌, length, map, not, ◌||◌, cond, position, unwrap_or, refl, ap, arith}
use Rattle.std.proofs.lemmas.Grind.{common_steps}
use Rattle.std.proofs.lemmas.List.{length-map, map_push}
use Rattle.std.specs.List.{AllZip, list_any, position_or_len}
use Rattle.indexmap.specs.IndexSet.{insert_key}

module _ {X Y : Type 0} (bytes : X → Y) where
  pub list_any-map : (test : Y → Bool) (xs : List X) → list_any test (map bytes xs) ≡ list_any (λ x. test (bytes x)) xs
  list_any-map test [] = refl
  list_any-map test (x ∷ xs) = ap (λ b. test (bytes x) || b) (list_any-map test xs)

  position_or_len-map : (test : Y → Bool) (xs : List X) → position_or_len test (map bytes xs) ≡ position_or_len (λ x. test (bytes x)) xs
  position_or_len-map test [] = refl
  position_or_len-map test (x ∷ xs) = ap (λ n. cond (not (test (bytes x))) (1 + n) 0) (position_or_len-map test xs)

  -- the place of the first that passes, or how many there are
  pub place-map : (test : Y → Bool) (xs : List X) → unwrap_or (position test (map bytes xs)) (length (map bytes xs)) ≡ unwrap_or (position (λ x. test (bytes x)) xs) (length xs)
  place-map test xs = rw (position_or_len-map test xs, length-map xs bytes) refl

  pub map-insert_key : (eq : Y → Y → Bool) (xs : List X) (x : X) → map bytes (insert_key (λ a b. eq (bytes a) (bytes b)) xs x) ≡ insert_key eq (map bytes xs) (bytes x)
  map-insert_key eq xs x =
      let e = list_any-map (eq (bytes x)) xs in
      let m = map_push bytes xs x in
      grind (arith, common_steps)

  pub map-clones : (is_clone : X → X → Type 0) → ((x y : X) → is_clone x y → bytes y ≡ bytes x) → (xs ys : List X) → AllZip is_clone xs ys → map bytes ys ≡ map bytes xs
  map-clones is_clone same [] [] all = refl
  map-clones is_clone same [] (y ∷ ys) all = absurd all
  map-clones is_clone same (x ∷ xs) [] all = absurd all
  map-clones is_clone same (x ∷ xs) (y ∷ ys) all = (λ i. same x y all.0 i ∷ map-clones is_clone same xs ys all.1 i)

-- the bytes of a copy
pub same_bytes : (xs ys : List ℕ) → AllZip (λ x y. y ≡ x) xs ys → ys ≡ xs
same_bytes [] [] all = refl
same_bytes [] (y ∷ ys) all = absurd all
same_bytes (x ∷ xs) [] all = absurd all
same_bytes (x ∷ xs) (y ∷ ys) all = (λ i. all.0 i ∷ same_bytes xs ys all.1 i)
