-- What a token is, by its lexeme, and the token that is found with it.
use Rattle.std.proofs.Common.{◌≡◌, ℕ, ◌≤◌, ◌^◌, Bool, true, false, List, [], ◌∷◌, take, Some, None, Contains, refl, sym, ap, ◌∙◌, arith}
use Rattle.std.specs.Bool.{then_some}
use Rattle.std.specs.Char.{is_ascii_alphabetic}
use Rattle.std.proofs.lemmas.Bool.Decides.{nat_tests}
use Rattle.spf_base.specs.Word.{IsLetter, IsWord}
use Rattle.spf_lex.specs.Found.{IsTokenAt}
use Rattle.spf_lex.specs.Front.{IsLengthOf}
use Rattle.spf_lex.specs.Lexeme.{IsNumber, symbols, value_of, IsToken, lexeme_of, lexeme_by, word_or_symbol}
use Rattle.spf_lex.specs.declared.lexeme.Lexeme.{Lexeme}
use Rattle.spf_lex.specs.declared.lexeme.Lexeme.TheVariants.{Word, Number, Symbol}
use Rattle.spf_lex.proofs.Lexemes.{word_no_number, number_no_symbol}
use Rattle.spf_lex.proofs.Numerals.{number_of_found}
use Rattle.spf_lex.proofs.Symbols.{BeginsSymbol, symbol_begins}

letter_test : (b : ℕ) → IsLetter b → is_ascii_alphabetic b ≡ true
letter_test b letter = grind (arith, nat_tests)

no_letter_test : (b : ℕ) → (IsLetter b → ⊥) → is_ascii_alphabetic b ≡ false
no_letter_test b none = by (is_ascii_alphabetic b) refl where
  by : (t : Bool) → is_ascii_alphabetic b ≡ t → t ≡ false
  by true e = absurd (none (grind (arith, nat_tests)))
  by false e = refl

not_number : (bytes : List ℕ) → ¬ IsNumber bytes → lexeme_of bytes ≡ word_or_symbol bytes
unfolding lexeme_of
not_number bytes none = ap (lexeme_by bytes) (sym (number_of_found bytes None (λ number. none number.0)))

pub word_lexeme : (bytes : List ℕ) → IsWord bytes → lexeme_of bytes ≡ Word
word_lexeme [] word = absurd word
word_lexeme (b ∷ bs) word = not_number (b ∷ bs) (word_no_number (b ∷ bs) word) ∙ rw (letter_test b word.0) refl

pub number_lexeme : (bytes : List ℕ) → IsNumber bytes → value_of bytes ≤ 2 ^ 63 → lexeme_of bytes ≡ Number (value_of bytes)
unfolding lexeme_of
number_lexeme bytes number small = ap (lexeme_by bytes) (sym (number_of_found bytes (Some (value_of bytes)) ((number, small), refl)))

pub symbol_lexeme : (bytes : List ℕ) → Contains symbols bytes → lexeme_of bytes ≡ Symbol
symbol_lexeme bytes symbol = not_number bytes (λ number. number_no_symbol bytes number symbol) ∙ by bytes (symbol_begins bytes symbol) where
  by : (bytes : List ℕ) → Rattle.spf_lex.specs.Front.BeginsWith BeginsSymbol bytes → word_or_symbol bytes ≡ Symbol
  by [] begins = refl
  by (b ∷ bs) begins = rw (no_letter_test b begins.no_letter) refl

-- ---- what is found with its length

pub found_with : (text : List ℕ) (n : ℕ) (lexeme : Lexeme) (b : Bool) → IsLengthOf (IsToken text) (then_some b n) → (IsToken text n → lexeme ≡ lexeme_of (take n text))
    → IsTokenAt text (then_some b (record { len = n; lexeme = lexeme }))
found_with text n lexeme true token is = record { token = token; lexeme = is token }
found_with text n lexeme false none is = none
