-- The names of notes, told of the parts of their list.
use Rattle.spf_kernel.proofs.Common.{◌≡◌, ℕ, zero, suc, ◌<◌, Bool, List, [], ◌∷◌, ◌++◌, length, map, flat_map, get_or, All, All-from_recursion, recursion_from_All, split_each, arith, sym, subst, common_steps, IsName, Token, Note, Says, text_of, param_note, AreNames, tokens_that, is_naming}

parts_of : {X : Type 0} (P : X → Type 0) (xs ys : List X) → All P (xs ++ ys) → All P xs × All P ys
parts_of P xs ys h = let parts = split_each P xs ys (recursion_from_All P (xs ++ ys) h) in (All-from_recursion P xs parts.0, All-from_recursion P ys parts.1)

pub tokens_append : (test : Says → Bool) (a b : List Note) → tokens_that test (a ++ b) ≡ tokens_that test a ++ tokens_that test b
tokens_append test a b = grind (arith, common_steps)

module _ (texts : List (List ℕ)) where
  abbrev IsTextName : Token → Type 0
  IsTextName token = IsName (text_of texts token)

  pub names_left : (a b : List Note) → AreNames texts (a ++ b) → AreNames texts a
  names_left a b h = (parts_of IsTextName (tokens_that is_naming a) (tokens_that is_naming b) (subst (All IsTextName) (tokens_append is_naming a b) h)).0

  pub names_right : (a b : List Note) → AreNames texts (a ++ b) → AreNames texts b
  names_right a b h = (parts_of IsTextName (tokens_that is_naming a) (tokens_that is_naming b) (subst (All IsTextName) (tokens_append is_naming a b) h)).1

  at : {X : Type 0} (notes : X → List Note) (xs : List X) (i : ℕ) (d : X) → i < length xs → AreNames texts (flat_map notes xs) → AreNames texts (notes (get_or xs i d))
  at notes [] i d l h = absurd (omega arith)
  at notes (x ∷ xs) zero d l h = names_left (notes x) (flat_map notes xs) h
  at notes (x ∷ xs) (suc i) d l h = at notes xs i d (omega arith) (names_right (notes x) (flat_map notes xs) h)

  pub names_each : {X : Type 0} (notes : X → List Note) (xs : List X) → AreNames texts (flat_map notes xs) → All (λ x. AreNames texts (notes x)) xs
  names_each notes xs h = λ i d l. at notes xs i d l h

  -- the notes of one of the things that the notes are of
  pub names_at : {X : Type 0} (notes : X → List Note) (xs : List X) (i : ℕ) (x : X) → i < length xs → x ≡ get_or xs i x → AreNames texts (flat_map notes xs) → AreNames texts (notes x)
  names_at notes xs i x l e h = subst (λ y. AreNames texts (notes y)) (sym e) (at notes xs i x l h)

  pub param_at : (names : List Token) (i : ℕ) (d : Token) → i < length names → AreNames texts (map param_note names) → IsName (text_of texts (get_or names i d))
  param_at [] i d l h = absurd (omega arith)
  param_at (token ∷ names) zero d l h = h 0 d (omega arith)
  param_at (token ∷ names) (suc i) d l h = param_at names i d (omega arith) (λ k e m. h (suc k) e (omega arith))
