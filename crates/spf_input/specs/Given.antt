-- The entries of the input part, as they are written.
use Rattle.std.specs.Prelude.{ℕ, ◌+◌, Bool, true, false, ℤ, if◌then◌else◌, List, [], ◌∷◌, map, slice_range}
use Rattle.std.specs.Str.{bytes_eq}
use Rattle.spf_lex.specs.Lexeme.{lexeme_of}
use Rattle.spf_lex.specs.Tokens.{Tokenized, texts}
use Rattle.spf_lex.specs.declared.lexeme.Lexeme.{Lexeme}
use Rattle.spf_lex.specs.declared.lexeme.Lexeme.TheVariants.{Word, Number, Symbol}
use Rattle.spf_kernel.specs.Facts.{text_of}
use Rattle.spf_kernel.specs.Resolved.{signed}
use Rattle.spf_input.specs.declared.entries.RawEntry.{RawEntry}
use Rattle.spf_input.specs.declared.entries.RawInput.{RawInput}

-- a name, and the numbers that are given for it
pub record Given : Type 0 where
  pub name : List ℕ
  pub numbers : List ℤ

-- the numbers that lexemes are, each behind a `-` or not; nothing else stands among them
abbrev pub numbers_from : Bool → List Lexeme → List ℤ
numbers_from minus [] = []
numbers_from minus (Number number ∷ lexemes) = signed minus number ∷ numbers_from false lexemes
numbers_from minus (Word ∷ lexemes) = numbers_from true lexemes
numbers_from minus (Symbol ∷ lexemes) = numbers_from true lexemes

-- the numbers from one token on up to another
abbrev pub numbers_between : List (List ℕ) → ℕ → ℕ → List ℤ
numbers_between texts from to = numbers_from false (slice_range (map lexeme_of texts) from to)

-- the name, and the numbers between the `=` and the `;`
abbrev pub given_at : List (List ℕ) → RawEntry → Given
given_at texts entry = record { name = text_of texts entry.name; numbers = numbers_between texts (entry.from + 1) entry.to }

-- the entries, in the order of the text
abbrev pub given_in : Tokenized → RawInput → List Given
given_in tokens input = map (given_at (texts tokens)) input.entries

-- the numbers that are given for a name, by the first entry that has it
abbrev pub numbers_of : List Given → List ℕ → List ℤ
numbers_of [] name = []
numbers_of (entry ∷ entries) name = if bytes_eq name entry.name then entry.numbers else numbers_of entries name
