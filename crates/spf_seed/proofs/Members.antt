-- Numbers of which some are put at the end of a list.
use Rattle.std.proofs.Common.{◌≡◌, ◌≢◌, ℕ, Bool, true, false, not, ◌&&◌, ◌||◌, List, [], ◌∷◌, ◌++◌, if◌then◌else◌, inl, inr, refl, sym, ap, ◌∙◌, eqb, append_assoc, arith}
use Rattle.std.specs.List.{AllPairs}
use Rattle.std.proofs.lemmas.Bool.{cases_Bool, eq-eqb, eqb-true, or_left, or_right, and_parts, not-true}
use Rattle.std.proofs.lemmas.List.{append-nil}
use Rattle.spf_touch.specs.Listed.{all_listed}
use Rattle.spf_touch.specs.Ordered.{is_in}
use Rattle.spf_touch.proofs.Members.{in_append, in_at, pairs_cons}

-- where all stand in the list already it stays
pub all_there : (base xs : List ℕ) → ((y : ℕ) → is_in xs y ≡ true → is_in base y ≡ true) → all_listed base xs ≡ base
all_there base [] there = refl
all_there base (x ∷ xs) there =
    let here : is_in base x ≡ true = there x (in_at (x ∷ xs) 0 0 (omega arith)) in
    rw here (all_there base xs (λ y h. there y (or_right (eqb y x) (is_in xs y) h)))

-- what is put at the end
abbrev pub fresh : List ℕ → List ℕ → List ℕ
fresh base [] = []
fresh base (x ∷ xs) = if is_in base x then fresh base xs else x ∷ fresh (base ++ x ∷ []) xs

pub all_fresh : (base xs : List ℕ) → all_listed base xs ≡ base ++ fresh base xs
all_fresh base [] = sym (append-nil base)
all_fresh base (x ∷ xs) = elim (cases_Bool (is_in base x)) [
  | inl there ↦ rw there (all_fresh base xs)
  | inr none ↦ rw none (all_fresh (base ++ x ∷ []) xs ∙ append_assoc base (x ∷ []) (fresh (base ++ x ∷ []) xs))
]

kept_out : (a b c : Bool) → (a ≡ true → c ≡ true) → (b && not c) ≡ ((a || b) && not c)
kept_out true b true h = elim b as (λ b. (b && false) ≡ false) [ true ↦ refl | false ↦ refl ]
kept_out true b false h = let no : false ≡ true = h refl in cc
kept_out false b c h = refl

let_in : (a b c : Bool) → (a ≡ true → c ≡ false) → (a || (b && not (c || (a || false)))) ≡ ((a || b) && not c)
let_in true b true h = let no : true ≡ false = h refl in cc
let_in true b false h = refl
let_in false b true h = refl
let_in false b false h = refl

pub fresh_in : (base xs : List ℕ) (y : ℕ) → is_in (fresh base xs) y ≡ (is_in xs y && not (is_in base y))
fresh_in base [] y = refl
fresh_in base (x ∷ xs) y = elim (cases_Bool (is_in base x)) [
  | inl there ↦ rw there (fresh_in base xs y ∙ kept_out (eqb y x) (is_in xs y) (is_in base y) (λ same. let e : y ≡ x = eqb-true y x same in rw e there))
  | inr none ↦ rw none (ap (λ b. eqb y x || b) (fresh_in (base ++ x ∷ []) xs y) ∙ ap (λ b. eqb y x || (is_in xs y && not b)) (in_append base (x ∷ []) y) ∙ let_in (eqb y x) (is_in xs y) (is_in base y) (λ same. let e : y ≡ x = eqb-true y x same in rw e none))
]

pub fresh_apart : (base xs : List ℕ) → AllPairs (λ x y. x ≢ y) (fresh base xs)
fresh_apart base [] = λ i j d lt in'. absurd (omega arith)
fresh_apart base (x ∷ xs) = elim (cases_Bool (is_in base x)) [
  | inl there ↦ rw there (fresh_apart base xs)
  | inr none ↦ rw none (pairs_cons (λ x y. x ≢ y) x (fresh (base ++ x ∷ []) xs) other (fresh_apart (base ++ x ∷ []) xs))
]
  where
    other : (y : ℕ) → is_in (fresh (base ++ x ∷ []) xs) y ≡ true → x ≢ y
    other y h same =
        let both = and_parts (is_in xs y) (not (is_in (base ++ x ∷ []) y)) (sym (fresh_in (base ++ x ∷ []) xs y) ∙ h) in
        let out : is_in (base ++ x ∷ []) y ≡ false = not-true (is_in (base ++ x ∷ []) y) both.1 in
        let there : is_in (base ++ x ∷ []) y ≡ true = in_append base (x ∷ []) y ∙ or_right (is_in base y) (eqb y x || false) (or_left (eqb y x) false (eq-eqb y x (sym same))) in
        cc
