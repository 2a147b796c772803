-- Words, one behind another, with blanks between, or with none where they can't run together.
use Rattle.std.specs.Prelude.{List, ℕ, [], ◌∷◌, ◌++◌}
use Rattle.spf_lex.specs.Front.{BeginsWith}
use Rattle.spf_lex.specs.Lexeme.{IsLexeme}
use Rattle.spf_lex.specs.Tokens.{IsTokenText}

-- the word runs on into the text behind it: with the first byte of that text it is a lexeme
abbrev pub RunsOn : List ℕ → List ℕ → Type 0
RunsOn word behind = BeginsWith (λ b. IsLexeme (word ++ b ∷ [])) behind

-- the text is these words and blanks, and no word runs on
pub data IsSpaced : List ℕ → List (List ℕ) → Type 0 where
  nothing : IsSpaced [] []
  one_blank : {text : List ℕ} {words : List (List ℕ)} → IsSpaced text words → IsSpaced (32 ∷ text) words
  one_word : {word text : List ℕ} {words : List (List ℕ)} → IsTokenText word → ¬ RunsOn word text → IsSpaced text words → IsSpaced (word ++ text) (word ∷ words)
