-- There is one order of the units by their places.
use Rattle.std.proofs.Common.{◌≡◌, ℕ, suc, true, List, [], ◌∷◌, AllPairs, inl, inr, refl, sym, ap, subst, eqb, arith}
use Rattle.std.proofs.lemmas.Bool.{cases_eq, eq-eqb, eqb-true, or_cases, or_left, or_right}
use Rattle.spf_space.specs.declared.places.Places.{Places}
use Rattle.spf_space.specs.declared.shape.Shape.{Shape}
use Rattle.spf_touch.proofs.Members.{place_in}
use Rattle.spf_touch.specs.Ordered.{is_in}
use Rattle.spf_space.proofs.InOrder.{before_once, stands}
use Rattle.spf_space.specs.InOrder.{AreInOrder, ComesBefore}

-- lists with the same numbers, each of which comes before all behind it
module _ (Before : ℕ → ℕ → Type 0) (asym : (u v : ℕ) → Before u v → Before v u → ⊥) where
  abbrev Within : List ℕ → List ℕ → Type 0
  Within xs ys = (z : ℕ) → is_in xs z ≡ true → is_in ys z ≡ true

  behind : (x : ℕ) (xs : List ℕ) → AllPairs Before (x ∷ xs) → (z : ℕ) → is_in xs z ≡ true → Before x z
  behind x xs order z h = let at = place_in xs z h in subst (Before x) (at.2 0) (order 0 (suc at.0) 0 (omega arith) (omega (arith, at.1)))

  rest : (x : ℕ) (xs ys : List ℕ) → AllPairs Before (x ∷ xs) → Within (x ∷ xs) (x ∷ ys) → Within xs ys
  rest x xs ys order within z h = elim (or_cases (eqb z x) (is_in ys z) (within z (or_right (eqb z x) (is_in xs z) h))) [
    | inl same ↦ let b : Before x x = subst (Before x) (eqb-true z x same) (behind x xs order z h) in absurd (asym x x b b)
    | inr later ↦ later
  ]

  tail : (x : ℕ) (xs : List ℕ) → AllPairs Before (x ∷ xs) → AllPairs Before xs
  tail x xs order i j d lt inside = order (suc i) (suc j) d (omega arith) (omega arith)

  pub one_list : (xs ys : List ℕ) → AllPairs Before xs → AllPairs Before ys → Within xs ys → Within ys xs → xs ≡ ys
  one_list [] [] a b there back = refl
  one_list [] (y ∷ ys) a b there back = let h = back y (or_left (eqb y y) (is_in ys y) (eq-eqb y y refl)) in cc
  one_list (x ∷ xs) [] a b there back = let h = there x (or_left (eqb x x) (is_in xs x) (eq-eqb x x refl)) in cc
  one_list (x ∷ xs) (y ∷ ys) a b there back = elim (cases_eq x y) [
    | inl same ↦
        let a' = rw same at a in
        let there' = rw same at there in
        let back' = rw same at back in
        rw same (ap (λ l. y ∷ l) (one_list xs ys (tail y xs a') (tail y ys b) (rest y xs ys a' there') (rest y ys xs b back')))
    | inr other ↦
        let x_in : is_in ys x ≡ true = elim (or_cases (eqb x y) (is_in ys x) (there x (or_left (eqb x x) (is_in xs x) (eq-eqb x x refl)))) [ inl e ↦ absurd (other (eqb-true x y e)) | inr h ↦ h ] in
        let y_in : is_in xs y ≡ true = elim (or_cases (eqb y x) (is_in xs y) (back y (or_left (eqb y y) (is_in ys y) (eq-eqb y y refl)))) [ inl e ↦ absurd (other (sym (eqb-true y x e))) | inr h ↦ h ] in
        absurd (asym x y (behind x xs a y y_in) (behind y ys b x x_in))
  ]

pub one_in_order : (shape : Shape) (places : Places) (us vs : List ℕ) → AreInOrder shape places us → AreInOrder shape places vs → us ≡ vs
one_in_order shape places us vs a b = one_list (ComesBefore shape places) (before_once shape places) us vs a.order b.order
    (λ z there. (stands shape places vs b z).1 ((stands shape places us a z).0 there)) (λ z there. (stands shape places us a z).1 ((stands shape places vs b z).0 there))
