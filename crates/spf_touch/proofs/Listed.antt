-- Numbers that are put at the end of a list, unless they stand there already.
use Rattle.std.proofs.Common.{◌≡◌, ℕ, ◌+◌, ◌<◌, Bool, true, false, ◌||◌, List, [], ◌∷◌, ◌++◌, length, get_or, drop, inl, inr, refl, sym, ap, ◌∙◌, eqb}
use Rattle.std.specs.List.{flat_map}
use Rattle.std.proofs.lemmas.Bool.{cases_Bool, eqb-true}
use Rattle.std.proofs.lemmas.List.{drop_more}
use Rattle.spf_touch.specs.Listed.{all_listed, with_listed}
use Rattle.spf_touch.specs.Ordered.{is_in}
use Rattle.spf_touch.proofs.Members.{in_append}

pub or_false : (b : Bool) → (b || false) ≡ b
or_false true = refl
or_false false = refl

or_assoc : (a b c : Bool) → ((a || b) || c) ≡ (a || (b || c))
or_assoc true b c = refl
or_assoc false b c = refl

pub in_with : (xs : List ℕ) (x y : ℕ) → is_in (with_listed xs x) y ≡ (is_in xs y || eqb y x)
in_with xs x y = elim (cases_Bool (is_in xs x)) [
  | inl there ↦ rw there (elim (cases_Bool (eqb y x)) [
    | inl same ↦ let e : y ≡ x = eqb-true y x same in let h : is_in xs y ≡ true = rw e there in rw h refl
    | inr other ↦ rw other (sym (or_false (is_in xs y)))
  ])
  | inr none ↦ rw none (in_append xs (x ∷ []) y ∙ ap (λ b. is_in xs y || b) (or_false (eqb y x)))
]

pub in_all : (base xs : List ℕ) (y : ℕ) → is_in (all_listed base xs) y ≡ (is_in base y || is_in xs y)
in_all base [] y = sym (or_false (is_in base y))
in_all base (x ∷ xs) y = in_all (with_listed base x) xs y ∙ ap (λ b. b || is_in xs y) (in_with base x y) ∙ or_assoc (is_in base y) (eqb y x) (is_in xs y)

pub all_append : (base xs ys : List ℕ) → all_listed base (xs ++ ys) ≡ all_listed (all_listed base xs) ys
all_append base [] ys = refl
all_append base (x ∷ xs) ys = all_append (with_listed base x) xs ys

-- one list more of those that are left
pub rows_more : (rows : ℕ → List ℕ) (old new whole : List ℕ) (es : List ℕ) (i d : ℕ) → i < length es → new ≡ all_listed old (rows (get_or es i d)) →
    all_listed old (flat_map rows (drop i es)) ≡ whole → all_listed new (flat_map rows (drop (i + 1) es)) ≡ whole
rows_more rows old new whole es i d lt step rest =
    ap (λ (l : List ℕ). all_listed l (flat_map rows (drop (i + 1) es))) step ∙ sym (all_append old (rows (get_or es i d)) (flat_map rows (drop (i + 1) es)))
    ∙ ap (λ (l : List ℕ). all_listed old (flat_map rows l)) (sym (drop_more es i d lt)) ∙ rest
