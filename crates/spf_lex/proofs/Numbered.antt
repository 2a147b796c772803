-- The tokens of a text by their numbers.
use Rattle.std.proofs.Common.{◌≡◌, ℕ, zero, suc, ◌+◌, List, [], ◌∷◌, length, map, drop, Some, option_map, refl, sym, ap, ◌∙◌, arith, add-one}
use Rattle.std.specs.Prelude.{slice_get}
use Rattle.spf_lex.specs.Cursor.{next_in}
use Rattle.spf_lex.specs.Language.{Language, Lexed, kind_by, value_in, lexed, numbered, tokens_of}
use Rattle.spf_lex.specs.Lexeme.{lexeme_of}
use Rattle.spf_lex.specs.declared.lexeme.Lexeme.{Lexeme}

-- the element that a slice has there
drop_there : {A : Type 0} (xs : List A) (n : ℕ) (x : A) → slice_get xs n ≡ Some x → drop n xs ≡ x ∷ drop (n + 1) xs
drop_there [] n x there = absurd cc
drop_there (y ∷ xs) zero x there = ap (λ z. z ∷ xs) cc
drop_there (y ∷ xs) (suc n) x there = rw add-one (rw add-one at (drop_there xs n x there))

slice_get-map : {A B : Type 0} (f : A → B) (xs : List A) (n : ℕ) (x : A) → slice_get xs n ≡ Some x → slice_get (map f xs) n ≡ Some (f x)
slice_get-map f [] n x there = absurd cc
slice_get-map f (y ∷ xs) zero x there = ap (option_map f) there
slice_get-map f (y ∷ xs) (suc n) x there = slice_get-map f xs n x there

module _ {K : Type 0} (language : Language K) where
  pub numbered_length : (at : ℕ) (texts : List (List ℕ)) → length (numbered language at texts) ≡ length texts
  numbered_length at [] = refl
  numbered_length at (text ∷ texts) = ap suc (numbered_length (at + 1) texts)

  -- behind the first n tokens stand those of the other texts
  pub drop_numbered : (n at : ℕ) (texts : List (List ℕ)) → drop n (numbered language at texts) ≡ numbered language (at + n) (drop n texts)
  drop_numbered zero at texts = ap (λ (m : ℕ). numbered language m texts) (omega arith)
  drop_numbered (suc n) at [] = refl
  drop_numbered (suc n) at (text ∷ texts) = drop_numbered n (at + 1) texts ∙ ap (λ (m : ℕ). numbered language m (drop n texts)) (omega arith)

  pub drop_tokens : (n : ℕ) (texts : List (List ℕ)) → drop n (tokens_of language texts) ≡ numbered language n (drop n texts)
  drop_tokens n texts = drop_numbered n 0 texts ∙ ap (λ (m : ℕ). numbered language m (drop n texts)) (omega arith)

  -- token `at` is that of text `at`
  pub token_there : (texts : List (List ℕ)) (at : ℕ) (text : List ℕ) → slice_get texts at ≡ Some text → drop at (tokens_of language texts) ≡ lexed language at text ∷ drop (at + 1) (tokens_of language texts)
  token_there texts at text there = drop_tokens at texts ∙ rw (drop_there texts at text there, drop_tokens (at + 1) texts) refl

  pub next_is : (texts : List (List ℕ)) (at : ℕ) (text : List ℕ) (lexeme : Lexeme) → slice_get texts at ≡ Some text → slice_get (map lexeme_of texts) at ≡ Some lexeme
      → Some (record { kind = kind_by language text lexeme; value = value_in lexeme }) ≡ next_in (drop at (tokens_of language texts))
  unfolding lexed
  next_is texts at text lexeme there is =
      let mapped = slice_get-map lexeme_of texts at text there in
      let same : lexeme ≡ lexeme_of text = cc in
      rw (token_there texts at text there, same) refl

  -- the first token has the number of tokens before it
  pub number_is : (at : ℕ) (texts : List (List ℕ)) (first : Lexed K) (others : List (Lexed K)) → drop at (tokens_of language texts) ≡ first ∷ others → first.token.at ≡ at
  unfolding lexed
  number_is at texts first others is = by (drop at texts) (sym (drop_tokens at texts) ∙ is) where
    by : (rest : List (List ℕ)) → numbered language at rest ≡ first ∷ others → first.token.at ≡ at
    by [] e = absurd cc
    by (text ∷ rest) e = let same : lexed language at text ≡ first = cc in ap (λ (l : Lexed K). l.token.at) (sym same)
