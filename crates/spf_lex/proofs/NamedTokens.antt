-- A token of the kind of a name has the text of a name.
use Rattle.std.proofs.Common.{◌≡◌, ℕ, ◌^◌, ◌≤◌, Bool, true, false, not, List, [], ◌∷◌, Option, Some, None, refl, sym, ◌∙◌, inl, inr, arith}
use Rattle.std.specs.Prelude.{◌||◌, ◌==◌, if◌then◌else◌}
use Rattle.std.specs.List.{list_any}
use Rattle.std.specs.Option.{unwrap_or}
use Rattle.std.specs.Str.{bytes_eq}
use Rattle.std.proofs.lemmas.Bool.{and_parts, true≢false}
use Rattle.spf_base.specs.Word.{IsName}
use Rattle.spf_lex.specs.Grammar.{IsExact}
use Rattle.spf_lex.specs.Language.{Entry, Language, Lexed, lookup, lexed, value_in, are_apart}
use Rattle.spf_lex.specs.Lexeme.{IsLexeme, lexeme_of, value_of}
use Rattle.spf_lex.specs.Tokens.{IsTokenText}
use Rattle.spf_lex.specs.declared.lexeme.Lexeme.TheVariants.{Word}
use Rattle.spf_lex.proofs.LexemeKinds.{number_lexeme, symbol_lexeme, word_lexeme}

none_left : (b c : Bool) → not (b || c) ≡ true → (b ≡ false) × (c ≡ false)
none_left true c e = absurd (true≢false (sym e))
none_left false true e = absurd (true≢false (sym e))
none_left false false e = (refl, refl)

either_left : (b c : Bool) → (b || c) ≡ false → (b ≡ false) × (c ≡ false)
either_left true c e = absurd (true≢false e)
either_left false c e = (refl, e)

is_false : (b : Bool) → not b ≡ true → b ≡ false
is_false true e = absurd (true≢false (sym e))
is_false false e = refl

module _ {K : Type 0} (same : K → K → Bool) (exact : IsExact same) (language : Language K) (apart : are_apart same language ≡ true) where
  abbrev is_name : K → Bool
  is_name kind = same kind language.name

  -- the three parts of the test
  quoted_apart : list_any (λ (entry : Entry K). is_name entry.1) language.quoted ≡ false
  quoted_apart = is_false _ (and_parts _ _ (and_parts _ _ apart).0).1

  others_apart : not (is_name language.one || (is_name language.number || is_name language.other)) ≡ true
  others_apart = (and_parts _ _ apart).1

  one_apart : is_name language.one ≡ false
  one_apart = (none_left _ _ others_apart).0

  number_apart : is_name language.number ≡ false
  number_apart = (either_left _ _ (none_left _ _ others_apart).1).0

  other_apart : is_name language.other ≡ false
  other_apart = (either_left _ _ (none_left _ _ others_apart).1).1

  -- no quoted text has the kind of a name
  looked_up : (entries : List (Entry K)) (text : List ℕ) (kind : K) → list_any (λ (entry : Entry K). is_name entry.1) entries ≡ false → lookup entries text ≡ Some kind → is_name kind ≡ false
  looked_up [] text kind none e = absurd cc
  looked_up (entry ∷ entries) text kind none e = by (bytes_eq entry.0 text) e (looked_up entries text kind (either_left _ _ none).1) where
    by : (b : Bool) → (if b then Some entry.1 else lookup entries text) ≡ Some kind → (lookup entries text ≡ Some kind → is_name kind ≡ false) → is_name kind ≡ false
    by true e later = let same_kind : entry.1 ≡ kind = cc in rw same_kind at (either_left (is_name entry.1) (list_any (λ (entry : Entry K). is_name entry.1) entries) none).0
    by false e later = later e

  symbol_apart : (text : List ℕ) → is_name (unwrap_or (lookup language.quoted text) language.other) ≡ false
  symbol_apart text = by (lookup language.quoted text) refl where
    by : (found : Option K) → lookup language.quoted text ≡ found → is_name (unwrap_or found language.other) ≡ false
    by None e = other_apart
    by (Some kind) e = looked_up language.quoted text kind quoted_apart e

  number_kind_apart : (n : ℕ) → is_name (if n == 1 then language.one else language.number) ≡ false
  number_kind_apart n = by (n == 1) where
    by : (b : Bool) → is_name (if b then language.one else language.number) ≡ false
    by true = one_apart
    by false = number_apart

  pub name_text : (at : ℕ) (text : List ℕ) → IsTokenText text → is_name (lexed language at text).kind ≡ true → IsName text
  unfolding lexed
  name_text at text token named = by token.lexeme where
    by : IsLexeme text → IsName text
    by (inl word) = record { word = word; short = token.limits.word word }
    by (inr (inl number)) =
        let lexeme = number_lexeme text number (token.limits.number number) in
        absurd (true≢false (sym (rw lexeme at named) ∙ number_kind_apart (value_of text)))
    by (inr (inr symbol)) =
        let lexeme = symbol_lexeme text symbol in
        absurd (true≢false (sym (rw lexeme at named) ∙ symbol_apart text))

  -- a quoted text isn't of the kind of a name
  name_free : (at : ℕ) (text : List ℕ) → IsTokenText text → is_name (lexed language at text).kind ≡ true → lookup language.quoted text ≡ None
  unfolding lexed
  name_free at text token named = by (lookup language.quoted text) refl where
    lexeme : lexeme_of text ≡ Word
    lexeme = word_lexeme text (name_text at text token named).word

    by : (found : Option K) → lookup language.quoted text ≡ found → found ≡ None
    by None e = refl
    by (Some kind) e = absurd (true≢false (sym (rw (lexeme, e) at named) ∙ looked_up language.quoted text kind quoted_apart e))

  small_value : (text : List ℕ) → IsTokenText text → value_in (lexeme_of text) ≤ 2 ^ 63
  small_value text token = by token.lexeme where
    by : IsLexeme text → value_in (lexeme_of text) ≤ 2 ^ 63
    by (inl word) = rw (word_lexeme text word) (omega arith)
    by (inr (inl number)) = rw (number_lexeme text number (token.limits.number number)) (token.limits.number number)
    by (inr (inr symbol)) = rw (symbol_lexeme text symbol) (omega arith)

  -- what a token is fit for: where a name is wanted its text is one that isn't quoted, and its value isn't too large
  pub record IsFit (wanted : K) (token : Lexed K) : Type 0 where
    pub name : wanted ≡ language.name → IsName token.text
    pub free : wanted ≡ language.name → lookup language.quoted token.text ≡ None
    pub value : token.token.value ≤ 2 ^ 63

  pub token_fits : (at : ℕ) (text : List ℕ) → IsTokenText text → IsFit (lexed language at text).kind (lexed language at text)
  unfolding lexed
  token_fits at text token = record {
    name = λ e. name_text at text token ((exact _ _).1 e);
    free = λ e. name_free at text token ((exact _ _).1 e);
    value = small_value text token;
  }
