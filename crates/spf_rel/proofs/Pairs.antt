-- Each of some elements with each of others.
use Rattle.std.proofs.Common.{◌≡◌, zero, suc, ◌⊎◌, inl, inr, List, [], ◌∷◌, ◌++◌, map, length, get_or, refl, sym, subst, arith}
use Rattle.std.specs.List.{All, Contains, flat_map}
use Rattle.std.proofs.lemmas.List.{drop_at, take_at}
use Rattle.std.proofs.lemmas.List.Elements.{All-cons, All-contains, All-drop, All-nil, All-take, Contains-append_cases, Contains-append_left, Contains-append_right, Contains-get_or}

module _ {X : Type 0} where
  pub none : {A : Type 0} (x : X) → Contains [] x → A
  none x at = absurd (omega (arith, at.1))

  pub there_first : (x : X) (xs : List X) → Contains (x ∷ xs) x
  there_first x xs = (0, omega arith, refl)

  pub there_later : (x y : X) (xs : List X) → Contains xs y → Contains (x ∷ xs) y
  there_later x y xs at = Contains-append_right (x ∷ []) xs y at

  pub single : (x y : X) → Contains (x ∷ []) y → y ≡ x
  single x y (zero, inside, is) = sym is
  single x y (suc k, inside, is) = absurd (omega arith)

  pub cases : (x y : X) (xs : List X) → Contains (x ∷ xs) y → (y ≡ x) ⊎ Contains xs y
  cases x y xs at = elim (Contains-append_cases (x ∷ []) xs y at) [
    | inl here ↦ inl (single x y here)
    | inr later ↦ inr later
  ]

  module _ (P : X → Type 0) (xs ys : List X) (all : All P (xs ++ ys)) where
    pub all_first : All P xs
    all_first = subst (All P) (take_at xs ys (length xs) refl) (All-take P (length xs) (xs ++ ys) all)

    pub all_second : All P ys
    all_second = subst (All P) (drop_at xs ys (length xs) refl) (All-drop P (length xs) (xs ++ ys) all)

module _ {X Y : Type 0} (f : X → Y) where
  pub in_map : (xs : List X) (x : X) → Contains xs x → Contains (map f xs) (f x)
  in_map [] x at = none x at
  in_map (y ∷ xs) x at = elim (cases y x xs at) [
    | inl here ↦ subst (λ of. Contains (map f (y ∷ xs)) (f of)) (sym here) (there_first (f y) (map f xs))
    | inr later ↦ there_later (f y) (f x) (map f xs) (in_map xs x later)
  ]

  pub of_map : (xs : List X) (z : Y) → Contains (map f xs) z → (x : X) × Contains xs x × (z ≡ f x)
  of_map [] z at = none z at
  of_map (y ∷ xs) z at = elim (cases (f y) z (map f xs) at) [
    | inl here ↦ (y, there_first y xs, here)
    | inr later ↦ let found = of_map xs z later in (found.0, there_later y found.0 xs found.1, found.2)
  ]

  pub all_from_map : (P : Y → Type 0) (xs : List X) → All P (map f xs) → All (λ (x : X). P (f x)) xs
  all_from_map P xs all = λ k d inside. All-contains P (map f xs) (f (get_or xs k d)) all (in_map xs (get_or xs k d) (Contains-get_or xs k d inside))

module _ {X Y Z : Type 0} (f : X → Y → Z) (ys : List Y) where
  abbrev pub pairs : List X → List Z
  pairs xs = flat_map (λ (x : X). map (f x) ys) xs

  pub in_pairs : (xs : List X) (x : X) (y : Y) → Contains xs x → Contains ys y → Contains (pairs xs) (f x y)
  in_pairs [] x y at at_y = none x at
  in_pairs (first ∷ xs) x y at at_y = elim (cases first x xs at) [
    | inl here ↦ Contains-append_left (map (f first) ys) (pairs xs) (f x y) (subst (λ of. Contains (map (f first) ys) (f of y)) (sym here) (in_map (f first) ys y at_y))
    | inr later ↦ Contains-append_right (map (f first) ys) (pairs xs) (f x y) (in_pairs xs x y later at_y)
  ]

  -- the elements that one of the results is made of
  pub record Made (xs : List X) (z : Z) : Type 0 where
    pub left : X
    pub right : Y
    pub in_left : Contains xs left
    pub in_right : Contains ys right
    pub is : z ≡ f left right

  pub of_pairs : (xs : List X) (z : Z) → Contains (pairs xs) z → Made xs z
  of_pairs [] z at = none z at
  of_pairs (first ∷ xs) z at = elim (Contains-append_cases (map (f first) ys) (pairs xs) z at) [
    | inl here ↦ let found = of_map (f first) ys z here in record { left = first; right = found.0; in_left = there_first first xs; in_right = found.1; is = found.2 }
    | inr later ↦ let found = of_pairs xs z later in record { left = found.left; right = found.right; in_left = there_later first found.left xs found.in_left; in_right = found.in_right; is = found.is }
  ]

  module _ (P : Z → Type 0) where
    pub all_pairs : (xs : List X) → All P (pairs xs) → All (λ (x : X). All (λ (y : Y). P (f x y)) ys) xs
    all_pairs [] all = All-nil (λ (x : X). All (λ (y : Y). P (f x y)) ys)
    all_pairs (first ∷ xs) all =
        All-cons (λ (x : X). All (λ (y : Y). P (f x y)) ys) first xs (all_from_map (f first) P ys (all_first P (map (f first) ys) (pairs xs) all)) (all_pairs xs (all_second P (map (f first) ys) (pairs xs) all))

    pub pairs_all : (xs : List X) → ((x : X) (y : Y) → Contains xs x → Contains ys y → P (f x y)) → All P (pairs xs)
    pairs_all xs each = λ k d inside.
        let made = of_pairs xs (get_or (pairs xs) k d) (Contains-get_or (pairs xs) k d inside) in
        subst P (sym made.is) (each made.left made.right made.in_left made.in_right)
