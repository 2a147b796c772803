-- The lexemes, which are words, numbers and symbols, and the token at the front of a text.
use Rattle.std.specs.Prelude.{ℕ, ◌≤◌, ◌<◌, ◌+◌, ◌-◌, ◌*◌, ◌^◌, ◌⊎◌, List, [], ◌∷◌, length, take, fold, map, codes, All, Contains, Bool, not, ◌&&◌, ◌==◌, nat_le, Option, Some, None, if◌then◌else◌}
use Rattle.std.specs.Char.{is_ascii_alphabetic, is_ascii_digit}
use Rattle.std.specs.List.{list_all}
use Rattle.spf_base.specs.Word.{IsWord, IsDigit}
use Rattle.spf_lex.specs.Front.{IsLongest}
use Rattle.spf_lex.specs.declared.lexeme.Lexeme.{Lexeme}
use Rattle.spf_lex.specs.declared.lexeme.Lexeme.TheVariants.{Word, Number, Symbol}

-- digits, and at least one
pub record IsNumber (bytes : List ℕ) : Type 0 where
  pub some : 0 < length bytes
  pub digits : All IsDigit bytes

-- the value of a run of digits
abbrev pub value_of : List ℕ → ℕ
value_of digits = fold (λ value digit. 10 * value + (digit - 48)) 0 digits

-- the bytes are digits, and at least one, of a value that a token may have
abbrev pub is_numeral : List ℕ → Bool
is_numeral text = not (length text == 0) && list_all is_ascii_digit text && nat_le (value_of text) (2 ^ 63)

-- the value of a token that is a number
abbrev pub number_of : List ℕ → Option ℕ
number_of text = if is_numeral text then Some (value_of text) else None

-- the symbols, those of two bytes and then those of one
abbrev pub symbols : List (List ℕ)
symbols =
    codes "->" ∷ codes ".." ∷ codes "+=" ∷ codes "==" ∷ codes "!=" ∷ codes "<=" ∷ codes ">=" ∷ map (λ b. b ∷ []) (codes "{}[](),;:=+-*<>|")

-- a word, a number or a symbol, of any length
abbrev pub IsLexeme : List ℕ → Type 0
IsLexeme bytes = IsWord bytes ⊎ (IsNumber bytes ⊎ Contains symbols bytes)

-- a word has at most 32 bytes, and a number is at most 2 ^ 63
pub record IsInLimits (bytes : List ℕ) : Type 0 where
  pub word : IsWord bytes → length bytes ≤ 32
  pub number : IsNumber bytes → value_of bytes ≤ 2 ^ 63

-- the longest lexeme at the front of the text has n bytes, and is in its limits
pub record IsToken (text : List ℕ) (n : ℕ) : Type 0 where
  pub lexeme : IsLongest IsLexeme text n
  pub limits : IsInLimits (take n text)

-- what a token is that isn't a number: a word begins with a letter
abbrev pub word_or_symbol : List ℕ → Lexeme
word_or_symbol [] = Symbol
word_or_symbol (b ∷ bs) = if is_ascii_alphabetic b then Word else Symbol

abbrev pub lexeme_by : List ℕ → Option ℕ → Lexeme
lexeme_by text None = word_or_symbol text
lexeme_by text (Some n) = Number n

-- what a token with these bytes is
unfoldable pub lexeme_of : List ℕ → Lexeme
lexeme_of text = lexeme_by text (number_of text)
