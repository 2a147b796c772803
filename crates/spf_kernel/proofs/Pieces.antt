-- Elements of a list that is put together from pieces, by their numbers.
use Rattle.spf_kernel.proofs.Common.{◌≡◌, ℕ, ◌+◌, ◌<◌, ◌≤◌, List, [], ◌∷◌, ◌++◌, length, map, flat_map, take, drop, get_or, slice_get, None, Some, refl, ap, sym, ◌∙◌, append-nil, length-append, arith, take_more, take_all, slice_get_within, get_or_from_slice_get, option_map, inside, within, take-append-drop, get_or_append_left, get_or-append-add, flat_map-append, slice_get_past, slice_get_read, slice_get-map}

in_the_middle : {B : Type 0} (before piece behind : List B) (left : ℕ) (y : B) → slice_get piece left ≡ Some y → slice_get ((before ++ piece) ++ behind) (length before + left) ≡ Some y
in_the_middle before piece behind left y there =
    let within = slice_get_within piece left y there in
    let short : length before + left < length (before ++ piece) = omega (arith, within, length-append before piece) in
    let inside : length before + left < length ((before ++ piece) ++ behind) = omega (arith, short, length-append (before ++ piece) behind) in
    slice_get_read ((before ++ piece) ++ behind) (length ((before ++ piece) ++ behind)) (length before + left) y refl inside
    (sym (get_or_append_left (before ++ piece) behind y (length before + left) short ∙ (get_or-append-add before piece left y ∙ get_or_from_slice_get piece left y y there)))

module _ {A B : Type 0} (f : A → List B) (xs : List A) (i left n : ℕ) (number : length (flat_map f (take i xs)) + left ≡ n) where
  -- what piece `i` has at `left` stands in the whole behind the pieces before
  pub in_piece : {C : Type 0} (view : C → B) (x : A) (piece : List C) (y : C) → i < length xs → x ≡ get_or xs i x → map view piece ≡ f x
      → left < length piece → y ≡ get_or piece left y → Some (view y) ≡ slice_get (flat_map f xs) n
  in_piece view x piece y inside at is within here =
      let behind = flat_map f (drop (i + 1) xs) in
      let front : flat_map f (take (i + 1) xs) ≡ flat_map f (take i xs) ++ f x =
      ap (flat_map f) (take_more xs i x inside ∙ ap (λ (z : A). take i xs ++ z ∷ []) (sym at)) ∙ (flat_map-append f (take i xs) (x ∷ []) ∙ ap (λ (ys : List B). flat_map f (take i xs) ++ ys) (append-nil (f x))) in
      let whole : flat_map f xs ≡ (flat_map f (take i xs) ++ f x) ++ behind =
      ap (flat_map f) (sym (take-append-drop (i + 1) xs)) ∙ (flat_map-append f (take (i + 1) xs) (drop (i + 1) xs) ∙ ap (λ (ys : List B). ys ++ behind) front) in
      let there : slice_get (f x) left ≡ Some (view y) =
      ap (λ (ys : List B). slice_get ys left) (sym is) ∙ (slice_get-map view piece left ∙ ap (option_map view) (slice_get_read piece (length piece) left y refl within here)) in
      sym (ap (slice_get (flat_map f xs)) (sym number)
      ∙ (ap (λ (ys : List B). slice_get ys (length (flat_map f (take i xs)) + left)) whole ∙ in_the_middle (flat_map f (take i xs)) (f x) behind left (view y) there))

  -- nothing stands behind all pieces
  pub past_pieces : length xs ≤ i → None ≡ slice_get (flat_map f xs) n
  past_pieces end = sym (slice_get_past (flat_map f xs) n (omega (arith, number, ap (λ (ys : List A). length (flat_map f ys)) (take_all i xs end))))
