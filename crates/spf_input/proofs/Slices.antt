-- The part of a list from one place on up to another.
use Rattle.std.proofs.Common.{◌≡◌, ℕ, ◌+◌, ◌-◌, ◌<◌, ◌≤◌, suc, min, List, [], ◌∷◌, Some, length, drop, slice_get, refl, ◌∙◌, ap, arith, add-one, drop-cons}
use Rattle.std.specs.List.{slice_range}
use Rattle.std.proofs.lemmas.Option.{slice_get_within, get_or_from_slice_get}
use Rattle.std.proofs.lemmas.Grind.{common_steps}

-- an element that is there is the first of the part
pub range_more : {X : Type 0} (xs : List X) (at to : ℕ) (x : X) → slice_get xs at ≡ Some x → at < to → slice_range xs at to ≡ x ∷ slice_range xs (at + 1) to
range_more xs at to x is below =
    let inside : at < length xs = slice_get_within xs at x is in
    let here : drop at xs ≡ x ∷ drop (at + 1) xs = rw (add-one at) (drop-cons xs at x inside ∙ ap (λ y. y ∷ drop (suc at) xs) (get_or_from_slice_get xs at x x is)) in
    let many : to - at ≡ suc (to - (at + 1)) = omega arith in
    rw (here, many) refl

drop_past : {X : Type 0} (xs : List X) (at : ℕ) → length xs ≤ at → drop at xs ≡ []
drop_past xs at past = grind (arith, common_steps)

-- nothing stands behind the end
pub range_none : {X : Type 0} (xs : List X) (at to : ℕ) → min to (length xs) ≤ at → slice_range xs at to ≡ []
range_none xs at to past = grind (arith, common_steps)
