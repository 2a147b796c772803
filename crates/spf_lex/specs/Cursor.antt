-- Where a cursor is among the tokens of a text, and what it knows of the token that comes next.
use Rattle.std.specs.Prelude.{ℕ, ◌≡◌, ◌≤◌, List, [], ◌∷◌, drop, length, Option, None, Some}
use Rattle.spf_lex.specs.Language.{Language, Lexed, tokens_of}
use Rattle.spf_lex.specs.declared.cursor.Next.{Next}

-- the kind and the value of the first token
abbrev pub next_in : {K : Type 0} → List (Lexed K) → Option (Next K)
next_in [] = None
next_in (lexed ∷ others) = Some (record { kind = lexed.kind; value = lexed.token.value })

-- the cursor is in front of token `at`, or behind the last, and knows what comes next
pub record IsAt {K : Type 0} (language : Language K) (texts : List (List ℕ)) (at : ℕ) (next : Option (Next K)) : Type 0 where
  pub within : at ≤ length texts
  pub known : next ≡ next_in (drop at (tokens_of language texts))
