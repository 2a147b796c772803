-- What the tests of a grammar say of its texts: which have none, and which kinds begin one.
use Rattle.std.proofs.Common.{◌≡◌, ◌⊎◌, Bool, true, false, not, List, [], ◌∷◌, ◌++◌, if◌then◌else◌, refl, sym, ap, subst, ◌∙◌, append-nil, inl, inr}
use Rattle.std.specs.List.{list_any}
use Rattle.std.proofs.lemmas.Bool.{and_parts, and_from, or_cases, or_left, or_right, not-true, both_ways}
use Rattle.std.proofs.lemmas.List.Folds.{list_any-append}
use Rattle.spf_lex.specs.Grammar.{Grammar, Nothing, One, Then, Or, Many, joined, Each, In, Begins, IsExact}
use Rattle.spf_lex.specs.LookAhead.{nullable, first, are_disjoint}

-- ---- lists

-- a list that is nothing behind another
pub append_nil_parts : {A : Type 0} (xs ys : List A) → xs ++ ys ≡ [] → (xs ≡ []) × (ys ≡ [])
append_nil_parts [] ys e = (refl, e)
append_nil_parts (x ∷ xs) ys e = absurd cc

-- an element of two lists, one behind the other, is in the first or in the second
pub record InFirst {A : Type 0} (front : List A) (k : A) (back xs ys : List A) : Type 0 where
  pub others : List A
  pub is : xs ≡ front ++ k ∷ others

pub record InSecond {A : Type 0} (front : List A) (k : A) (back xs ys : List A) : Type 0 where
  pub middle : List A
  pub front_is : front ≡ xs ++ middle
  pub is : ys ≡ middle ++ k ∷ back

pub element_of_append : {A : Type 0} (front : List A) (k : A) (back xs ys : List A) → xs ++ ys ≡ front ++ k ∷ back → InFirst front k back xs ys ⊎ InSecond front k back xs ys
element_of_append front k back [] ys e = inr (record { middle = front; front_is = refl; is = e })
element_of_append [] k back (x ∷ xs) ys e = inl (record { others = xs; is = cc })
element_of_append {A} (f ∷ front) k back (x ∷ xs) ys e =
    let head : x ≡ f = cc in
    elim (element_of_append front k back xs ys cc) [
      | inl h ↦ inl (record { others = h.others; is = let e' = h.is in cc })
      | inr h ↦ inr (record { middle = h.middle; front_is = let e' = h.front_is in cc; is = h.is })
    ]

-- ---- kinds in a list

module _ {K : Type 0} (same : K → K → Bool) where
  pub any_left : (k : K) (xs ys : List K) → list_any (same k) xs ≡ true → list_any (same k) (xs ++ ys) ≡ true
  any_left k xs ys h = list_any-append (same k) xs ys ∙ or_left _ _ h

  pub any_right : (k : K) (xs ys : List K) → list_any (same k) ys ≡ true → list_any (same k) (xs ++ ys) ≡ true
  any_right k xs ys h = list_any-append (same k) xs ys ∙ or_right _ _ h

  pub any_cases : (k : K) (xs ys : List K) → list_any (same k) (xs ++ ys) ≡ true → (list_any (same k) xs ≡ true) ⊎ (list_any (same k) ys ≡ true)
  any_cases k xs ys h = or_cases _ _ (sym (list_any-append (same k) xs ys) ∙ h)

  pub any_if : (k : K) (b : Bool) (xs : List K) → list_any (same k) (if b then xs else []) ≡ true → (b ≡ true) × (list_any (same k) xs ≡ true)
  any_if k true xs h = (refl, h)
  any_if k false xs h = absurd cc

  pub not_in_both : IsExact same → (k : K) (xs ys : List K) → are_disjoint same xs ys ≡ true → list_any (same k) xs ≡ true → list_any (same k) ys ≡ true → ⊥
  not_in_both exact k [] ys apart h l = absurd cc
  not_in_both exact k (x ∷ xs) ys apart h l =
      let parts = and_parts (not (list_any (same x) ys)) (are_disjoint same xs ys) apart in
      elim (or_cases (same k x) (list_any (same k) xs) h) [
        | inl here ↦ both_ways (list_any (same x) ys) (not-true _ parts.0) (subst (λ (y : K). list_any (same y) ys ≡ true) ((exact k x).0 here) l)
        | inr later ↦ not_in_both exact k xs ys parts.1 later l
      ]

-- ---- the empty text

pub nullable_from_In : {K : Type 0} (g : Grammar K) → In g [] → nullable g ≡ true
unfolding In nullable
nullable_from_In Nothing t = refl
nullable_from_In (One k) t = absurd cc
nullable_from_In (Then g h) t =
    let e = append_nil_parts t.0 t.1 (sym t.2) in
    and_from _ _ (nullable_from_In g (rw e.0 at t.3)) (nullable_from_In h (rw e.1 at t.4))
nullable_from_In (Or g h) (inl t) = or_left _ _ (nullable_from_In g t)
nullable_from_In (Or g h) (inr t) = or_right _ _ (nullable_from_In h t)
nullable_from_In (Many g) t = refl

pub In-nullable : {K : Type 0} (g : Grammar K) → nullable g ≡ true → In g []
unfolding In nullable
In-nullable Nothing e = refl
In-nullable (One k) e = absurd cc
In-nullable (Then g h) e =
    let b = and_parts (nullable g) (nullable h) e in
    ([], [], refl, In-nullable g b.0, In-nullable h b.1)
In-nullable (Or g h) e = elim (or_cases (nullable g) (nullable h) e) [ inl b ↦ inl (In-nullable g b) | inr b ↦ inr (In-nullable h b) ]
In-nullable (Many g) e = ([], refl, tt)

-- ---- a first kind

-- each grammar has a text
pub some_text : {K : Type 0} (g : Grammar K) → (kinds : List K) × In g kinds
unfolding In
some_text Nothing = ([], refl)
some_text (One k) = (k ∷ [], refl)
some_text (Then g h) =
    let a = some_text g in
    let b = some_text h in
    (a.0 ++ b.0, (a.0, b.0, refl, a.1, b.1))
some_text (Or g h) = let a = some_text g in (a.0, inl a.1)
some_text (Many g) = ([], ([], refl, tt))

module _ {K : Type 0} (same : K → K → Bool) (exact : IsExact same) where
  first_of_parts : (g : Grammar K) (k : K) (kinds : List K) (parts : List (List K)) → ((k : K) (kinds : List K) → In g (k ∷ kinds) → list_any (same k) (first g) ≡ true) → k ∷ kinds ≡ joined parts → Each (In g) parts → list_any (same k) (first g) ≡ true
  first_of_parts g k kinds [] starts e each = absurd cc
  first_of_parts g k kinds ([] ∷ parts) starts e each = first_of_parts g k kinds parts starts e each.1
  first_of_parts g k kinds ((x ∷ part) ∷ parts) starts e each =
      let head : x ≡ k = cc in
      starts k part (rw head at each.0)

  pub first_from_In : (g : Grammar K) (k : K) (kinds : List K) → In g (k ∷ kinds) → list_any (same k) (first g) ≡ true
  unfolding In first
  first_from_In Nothing k kinds t = absurd cc
  first_from_In (One x) k kinds t =
      let e : k ≡ x = cc in
      or_left _ _ ((exact k x).1 e)
  first_from_In (Then g h) k kinds ([], back, e, front_in, back_in) =
      rw (nullable_from_In g front_in) (any_right same k (first g) (first h) (first_from_In h k kinds (rw (← e) at back_in)))
  first_from_In (Then g h) k kinds (x ∷ front, back, e, front_in, back_in) =
      let head : x ≡ k = cc in
      any_left same k (first g) _ (first_from_In g k front (rw head at front_in))
  first_from_In (Or g h) k kinds (inl t) = any_left same k (first g) (first h) (first_from_In g k kinds t)
  first_from_In (Or g h) k kinds (inr t) = any_right same k (first g) (first h) (first_from_In h k kinds t)
  first_from_In (Many g) k kinds t = first_of_parts g k kinds t.0 (first_from_In g) t.1 t.2

  pub Begins-first : (g : Grammar K) (k : K) → list_any (same k) (first g) ≡ true → Begins g (k ∷ [])
  unfolding In first
  Begins-first Nothing k e = absurd cc
  Begins-first (One x) k e =
      elim (or_cases (same k x) false e) [
        | inl here ↦ ([], ap (λ (y : K). y ∷ []) ((exact k x).0 here))
        | inr never ↦ absurd cc
      ]
  Begins-first (Then g h) k e =
      elim (any_cases same k (first g) _ e) [
        | inl here ↦ let b = Begins-first g k here in let t = some_text h in (b.0 ++ t.0, (k ∷ b.0, t.0, refl, b.1, t.1))
        | inr later ↦ let l = any_if same k (nullable g) (first h) later in let b = Begins-first h k l.1 in (b.0, ([], k ∷ b.0, refl, In-nullable g l.0, b.1))
      ]
  Begins-first (Or g h) k e =
      elim (any_cases same k (first g) (first h) e) [
        | inl here ↦ let b = Begins-first g k here in (b.0, inl b.1)
        | inr later ↦ let b = Begins-first h k later in (b.0, inr b.1)
      ]
  Begins-first (Many g) k e = let b = Begins-first g k e in (b.0, ((k ∷ b.0) ∷ [], sym (append-nil (k ∷ b.0)), (b.1, tt)))
