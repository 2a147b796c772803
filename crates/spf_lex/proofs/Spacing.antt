-- How a text is spaced word by word: a word in front of a spaced text.
use Rattle.std.proofs.Common.{◌≡◌, ℕ, ◌<◌, ◌≤◌, ◌^◌, ◌⊎◌, ◌==◌, Bool, true, false, not, ◌&&◌, ◌||◌, List, [], ◌∷◌, ◌++◌, decimal, All, Contains, refl, inl, inr, arith}
use Rattle.std.specs.Char.{is_ascii_alphabetic, is_ascii_digit}
use Rattle.std.specs.List.{list_all}
use Rattle.std.proofs.lemmas.Bool.{and_parts}
use Rattle.std.proofs.lemmas.Bool.Decides.{nat_tests}
use Rattle.std.proofs.lemmas.Fmt.{length-decimal-le}
use Rattle.std.proofs.lemmas.List.Elements.{All-contains, All-head, All-weaker}
use Rattle.std.proofs.lemmas.List.Sums.{AllPass-from_list_all}
use Rattle.spf_base.specs.Word.{IsLetter, IsDigit, IsWordByte, IsName}
use Rattle.spf_lex.specs.Front.{BeginsWith}
use Rattle.spf_lex.specs.Lexeme.{symbols, IsNumber, IsLexeme}
use Rattle.spf_lex.specs.Spaced.{RunsOn, IsSpaced, one_blank, one_word}
use Rattle.spf_lex.specs.Tokens.{IsTokenText}
use Rattle.spf_lex.proofs.FixedWords.{name_token, symbol_token, is_symbol, a_symbol}
use Rattle.spf_lex.proofs.Joining.{all_last, ends_at_blank}
use Rattle.spf_lex.proofs.Lexemes.{word_bytes}
use Rattle.spf_lex.proofs.Symbols.{symbol_begins}
use Rattle.spf_lex.proofs.Written.{decimal_numeral, decimal_token}

-- ---- a lexeme is of bytes of words, or of none

abbrev pub is_word_byte : ℕ → Bool
is_word_byte b = is_ascii_alphabetic b || is_ascii_digit b || b == 95

abbrev IsOutside : ℕ → Type 0
IsOutside b = ¬ IsWordByte b

outside : (b : ℕ) → not (is_word_byte b) ≡ true → IsOutside b
outside b e byte = grind (arith, nat_tests)

abbrev is_outside : List ℕ → Bool
is_outside bytes = list_all (λ b. not (is_word_byte b)) bytes

symbol_outside : (bytes : List ℕ) → Contains symbols bytes → All IsOutside bytes
symbol_outside bytes symbol =
    let test = All-contains (λ bs. is_outside bs ≡ true) symbols bytes (AllPass-from_list_all is_outside symbols refl) symbol in
    All-weaker (λ b. not (is_word_byte b) ≡ true) IsOutside outside bytes (AllPass-from_list_all (λ b. not (is_word_byte b)) bytes test)

one_sort : (bytes : List ℕ) → IsLexeme bytes → All IsWordByte bytes ⊎ All IsOutside bytes
one_sort bytes (inl word) = inl (word_bytes bytes word)
one_sort bytes (inr (inl number)) = inl (All-weaker IsDigit IsWordByte (λ b digit. inr (inl digit)) bytes number.digits)
one_sort bytes (inr (inr symbol)) = inr (symbol_outside bytes symbol)

-- ---- words that do not run on

-- whether no word or number runs on into the text
abbrev pub ends_word : List ℕ → Bool
ends_word [] = true
ends_word (b ∷ bs) = not (is_word_byte b)

word_ends : (a : ℕ) (bytes behind : List ℕ) → IsWordByte a → ends_word behind ≡ true → ¬ RunsOn (a ∷ bytes) behind
word_ends a bytes [] byte ends begins = begins
word_ends a bytes (b ∷ bs) byte ends lexeme =
    elim (one_sort (a ∷ bytes ++ b ∷ []) lexeme) [
      | inl each ↦ outside b ends (all_last IsWordByte (a ∷ bytes) b each)
      | inr each ↦ All-head IsOutside a (bytes ++ b ∷ []) each byte
    ]

symbol_ends : (symbol behind : List ℕ) → Contains symbols symbol → BeginsWith IsWordByte behind → ¬ RunsOn symbol behind
symbol_ends [] behind is byte lexeme = symbol_begins [] is
symbol_ends (a ∷ bytes) [] is byte lexeme = lexeme
symbol_ends (a ∷ bytes) (b ∷ bs) is byte lexeme =
    elim (one_sort (a ∷ bytes ++ b ∷ []) lexeme) [
      | inl each ↦ All-head IsOutside a bytes (symbol_outside (a ∷ bytes) is) (All-head IsWordByte a (bytes ++ b ∷ []) each)
      | inr each ↦ all_last IsOutside (a ∷ bytes) b each byte
    ]

number_ends : (bytes behind : List ℕ) → IsNumber bytes → ends_word behind ≡ true → ¬ RunsOn bytes behind
number_ends [] behind number ends = absurd (omega (arith, number.some))
number_ends (b ∷ bytes) behind number ends =
    word_ends b bytes behind (inr (inl (All-head IsDigit b bytes number.digits))) ends

abbrev goes_on : ℕ → List ℕ → Bool
goes_on b [] = false
goes_on b (a ∷ []) = false
goes_on b (a ∷ c ∷ bytes) = a == b

-- whether the byte is a symbol, and no longer symbol begins with it
abbrev pub is_lone : ℕ → Bool
is_lone b = is_symbol (b ∷ []) && list_all (λ symbol. not (goes_on b symbol)) symbols

lone_symbol : (b : ℕ) → is_lone b ≡ true → Contains symbols (b ∷ [])
lone_symbol b lone = a_symbol (b ∷ []) (and_parts (is_symbol (b ∷ [])) _ lone).0

lone_ends : (b : ℕ) (behind : List ℕ) → is_lone b ≡ true → ¬ RunsOn (b ∷ []) behind
lone_ends b [] lone begins = begins
lone_ends b (c ∷ bytes) lone lexeme = by lexeme where
  out : IsOutside b
  out = All-head IsOutside b [] (symbol_outside (b ∷ []) (lone_symbol b lone))

  by : IsLexeme (b ∷ c ∷ []) → ⊥
  by (inl word) = out (inl word.0)
  by (inr (inl number)) = out (inr (inl (All-head IsDigit b (c ∷ []) number.digits)))
  by (inr (inr symbol)) =
      let none = AllPass-from_list_all (λ s. not (goes_on b s)) symbols (and_parts (is_symbol (b ∷ [])) _ lone).1 in
      let here : not (b == b) ≡ true = All-contains (λ s. not (goes_on b s) ≡ true) symbols (b ∷ c ∷ []) none symbol in
      grind (arith, nat_tests)

-- ---- a word in front

module _ {text : List ℕ} {words : List (List ℕ)} where
  pub name_spaced : (name : List ℕ) → IsName name → ends_word text ≡ true → IsSpaced text words → IsSpaced (name ++ text) (name ∷ words)
  name_spaced [] name ends spaced = absurd name.word
  name_spaced (b ∷ bytes) name ends spaced = one_word (name_token (b ∷ bytes) name) (word_ends b bytes text (inl name.word.0) ends) spaced

  pub number_spaced : (n : ℕ) → n ≤ 2 ^ 63 → ends_word text ≡ true → IsSpaced text words → IsSpaced (decimal n ++ text) (decimal n ∷ words)
  number_spaced n small ends spaced = one_word (decimal_token n small).0 (number_ends (decimal n) text (decimal_numeral n (omega arith)).number ends) spaced

  -- `[`, `]`, `,` and others
  pub mark_spaced : (b : ℕ) → is_lone b ≡ true → IsSpaced text words → IsSpaced (b ∷ text) ((b ∷ []) ∷ words)
  mark_spaced b lone spaced = one_word {word = b ∷ []} (symbol_token (b ∷ []) (lone_symbol b lone)) (lone_ends b text lone) spaced

  -- such as a leading `-`
  pub symbol_spaced : (symbol : List ℕ) → is_symbol symbol ≡ true → BeginsWith IsWordByte text → IsSpaced text words → IsSpaced (symbol ++ text) (symbol ∷ words)
  symbol_spaced symbol test begins spaced = let is = a_symbol symbol test in one_word (symbol_token symbol is) (symbol_ends symbol text is begins) spaced

  pub before_blank : (word : List ℕ) → IsTokenText word → IsSpaced text words → IsSpaced (word ++ 32 ∷ text) (word ∷ words)
  before_blank word is_token spaced = one_word is_token (ends_at_blank word text) (one_blank spaced)

-- ---- names and numbers

pub name_begins : (name text : List ℕ) → IsName name → BeginsWith IsWordByte (name ++ text)
name_begins [] text name = absurd name.word
name_begins (b ∷ bytes) text name = inl name.word.0

pub number_begins : (n : ℕ) (text : List ℕ) → n < 2 ^ 64 → BeginsWith IsWordByte (decimal n ++ text)
number_begins n text small = by (decimal n) (decimal_numeral n small).number where
  by : (bytes : List ℕ) → IsNumber bytes → BeginsWith IsWordByte (bytes ++ text)
  by [] number = absurd (omega (arith, number.some))
  by (b ∷ bytes) number = inr (inl (All-head IsDigit b bytes number.digits))

-- such as X7
pub numbered_name : (letter n : ℕ) → IsLetter letter → n < 2 ^ 64 → IsName (letter ∷ decimal n)
numbered_name letter n is small = record {
  word = (is, All-weaker IsDigit IsWordByte (λ b digit. inr (inl digit)) (decimal n) (decimal_numeral n small).number.digits);
  short = omega (arith, length-decimal-le 20 n (omega arith) (omega arith) small);
}
