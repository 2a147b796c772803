-- Words that are tokens of one kind wherever they stand: quoted texts, names and numbers.
use Rattle.std.proofs.Common.{◌≡◌, ℕ, ◌≤◌, ◌^◌, ◌==◌, Bool, true, false, ◌&&◌, nat_le, if◌then◌else◌, List, [], ◌∷◌, length, get_or, Option, Some, None, decimal, Contains, refl, ap, inl, inr, arith}
use Rattle.std.specs.List.{list_all, list_any}
use Rattle.std.specs.Str.{bytes_eq}
use Rattle.std.proofs.lemmas.Bool.{and_parts, leb-true}
use Rattle.std.proofs.lemmas.Bool.Decides.{nat_tests}
use Rattle.std.proofs.lemmas.List.Sums.{AllPass-from_list_all}
use Rattle.std.proofs.lemmas.Map.Views.{Contains-from_any}
use Rattle.std.proofs.lemmas.Slice.Eq.{bytes_eq-Decides}
use Rattle.spf_base.specs.Word.{IsLetter, IsDigit, IsName}
use Rattle.spf_lex.specs.Language.{Language, lookup, kind_by, value_in, lexed}
use Rattle.spf_lex.specs.Lexeme.{symbols, lexeme_of, lexeme_by}
use Rattle.spf_lex.specs.Tokens.{IsTokenText}
use Rattle.spf_lex.proofs.Fronts.{BeginsWith-apart}
use Rattle.spf_lex.proofs.LexemeKinds.{word_lexeme, symbol_lexeme}
use Rattle.spf_lex.proofs.Lexemes.{word_no_number, number_begins}
use Rattle.spf_lex.proofs.Symbols.{BeginsSymbol, symbol_begins, length-symbol}
use Rattle.spf_lex.proofs.Written.{decimal_token}

-- the word is a token, and of this kind
pub record IsFixed {K : Type 0} (language : Language K) (wanted : K) (word : List ℕ) : Type 0 where
  pub token : IsTokenText word
  pub is : kind_by language word (lexeme_of word) ≡ wanted

-- ---- words of small letters, and symbols

abbrev is_small : ℕ → Bool
is_small b = nat_le 97 b && nat_le b 122

-- small letters, at most 32
abbrev is_small_word : List ℕ → Bool
is_small_word [] = false
is_small_word (b ∷ bs) = (is_small b && list_all is_small bs) && nat_le (length (b ∷ bs)) 32

abbrev pub is_symbol : List ℕ → Bool
is_symbol word = list_any (bytes_eq word) symbols

small_letter : (b : ℕ) → is_small b ≡ true → IsLetter b
small_letter b e = grind (arith, nat_tests)

pub small_word : (word : List ℕ) → is_small_word word ≡ true → IsName word
small_word [] e = absurd cc
small_word (b ∷ bs) e =
    let parts = and_parts (is_small b && list_all is_small bs) (nat_le (length (b ∷ bs)) 32) e in
    let bytes = and_parts (is_small b) (list_all is_small bs) parts.0 in
    record {
      word = (small_letter b bytes.0, λ k d h. inl (small_letter (get_or bs k d) (AllPass-from_list_all is_small bs bytes.1 k d h)));
      short = leb-true (length (b ∷ bs)) 32 parts.1;
    }

pub a_symbol : (word : List ℕ) → is_symbol word ≡ true → Contains symbols word
a_symbol word e = Contains-from_any {eq = bytes_eq} (λ xs ys same. (bytes_eq-Decides xs ys).0 same) word symbols e

pub name_token : (word : List ℕ) → IsName word → IsTokenText word
name_token word name = record {
  lexeme = inl name.word;
  limits = record { word = λ _. name.short; number = λ number. absurd (word_no_number word name.word number) };
}

pub symbol_token : (word : List ℕ) → Contains symbols word → IsTokenText word
symbol_token word symbol = record {
  lexeme = inr (inr symbol);
  limits = record {
    word = λ _. omega (arith, length-symbol word symbol);
    number = λ number. absurd (BeginsWith-apart IsDigit BeginsSymbol (λ b digit begins. begins.no_digit digit) word (number_begins word number) (symbol_begins word symbol));
  };
}

module _ {K : Type 0} (language : Language K) where
  -- ---- quoted texts

  pub small_fixed : (wanted : K) (word : List ℕ) → is_small_word word ≡ true → lookup language.quoted word ≡ Some wanted → IsFixed language wanted word
  small_fixed wanted word small there =
      let name = small_word word small in
      record { token = name_token word name; is = rw (word_lexeme word name.word, there) refl }

  pub symbol_fixed : (wanted : K) (word : List ℕ) → is_symbol word ≡ true → lookup language.quoted word ≡ Some wanted → IsFixed language wanted word
  symbol_fixed wanted word is there =
      let symbol = a_symbol word is in
      record { token = symbol_token word symbol; is = rw (symbol_lexeme word symbol, there) refl }

  -- ---- names

  pub name_fixed : (name : List ℕ) → IsName name → lookup language.quoted name ≡ None → IsFixed language language.name name
  name_fixed name is free = record { token = name_token name is; is = rw (word_lexeme name is.word, free) refl }

  -- ---- numbers

  abbrev pub kind_of_number : ℕ → K
  kind_of_number n = if n == 1 then language.one else language.number

  pub number_fixed : (n : ℕ) → n ≤ 2 ^ 63 → IsFixed language (kind_of_number n) (decimal n)
  unfolding lexeme_of
  number_fixed n small = record {
    token = (decimal_token n small).0;
    is = ap (λ (found : Option ℕ). kind_by language (decimal n) (lexeme_by (decimal n) found)) (decimal_token n small).1;
  }

  pub number_value : (at n : ℕ) → n ≤ 2 ^ 63 → (lexed language at (decimal n)).token.value ≡ n
  unfolding lexed lexeme_of
  number_value at n small = ap (λ (found : Option ℕ). value_in (lexeme_by (decimal n) found)) (decimal_token n small).1
