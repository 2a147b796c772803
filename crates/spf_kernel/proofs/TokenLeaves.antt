-- The tokens of a text are leaves: names have the texts of names, and numbers aren't too large.
use Rattle.spf_kernel.proofs.Common.{◌≡◌, ℕ, ◌≤◌, ◌^◌, Bool, true, false, List, [], ◌∷◌, Some, None, get_or, length, not, ◌==◌, refl, arith, if◌then◌else◌, nat_le, ◌&&◌, bundle_words, IsTokenText, list_all, leb-true, kind_of, lexed, value_in}
use Rattle.std.specs.Char.{is_ascii_digit, is_ascii_alphabetic}
use Rattle.spf_lex.specs.Lexeme.{lexeme_of, lexeme_by, is_numeral, value_of}
use Rattle.spf_kernel.proofs.Written.{IsLeaf}

last_of : (a b : Bool) → a && b ≡ true → b ≡ true
last_of true b e = e
last_of false b e = absurd cc

no_value : (text : List ℕ) → value_in (lexeme_by text None) ≤ 2 ^ 63
no_value [] = omega arith
no_value (b ∷ bs) = by (is_ascii_alphabetic b) where
  by : (t : Bool) → value_in (if t then Rattle.spf_lex.specs.declared.lexeme.Lexeme.TheVariants.Word else Rattle.spf_lex.specs.declared.lexeme.Lexeme.TheVariants.Symbol) ≤ 2 ^ 63
  by true = omega arith
  by false = omega arith

value_within : (text : List ℕ) → value_in (lexeme_of text) ≤ 2 ^ 63
unfolding lexeme_of
value_within text = by (is_numeral text) refl where
  by : (b : Bool) → is_numeral text ≡ b → value_in (lexeme_by text (if b then Some (value_of text) else None)) ≤ 2 ^ 63
  by true is = leb-true (value_of text) (2 ^ 63) (last_of (not (length text == 0) && list_all is_ascii_digit text) (nat_le (value_of text) (2 ^ 63)) is)
  by false is = no_value text

pub token_is_leaf : (texts : List (List ℕ)) (at : ℕ) (text : List ℕ) → get_or texts at [] ≡ text → IsTokenText text → IsLeaf texts (kind_of (lexed bundle_words at text)) (lexed bundle_words at text)
unfolding lexed
token_is_leaf texts at text there is_token = record {
  name = λ named. rw there (record { token = is_token; is = named });
  value = value_within text;
}
