-- The token at the front of a text, as it is found.
use Rattle.std.specs.Prelude.{ℕ, ◌≡◌, List, take, Option, MatchOption}
use Rattle.spf_lex.specs.Lexeme.{IsToken, lexeme_of}
use Rattle.spf_lex.specs.declared.lexeme.Found.{Found}

-- a token of so many bytes stands at the front of the text, and is this
pub record IsFound (text : List ℕ) (found : Found) : Type 0 where
  pub token : IsToken text found.len
  pub lexeme : found.lexeme ≡ lexeme_of (take found.len text)

-- the token at the front is found, and none is only where there is none
abbrev pub IsTokenAt : List ℕ → Option Found → Type 0
IsTokenAt text found = MatchOption found ((n : ℕ) → ¬ IsToken text n) (IsFound text)
