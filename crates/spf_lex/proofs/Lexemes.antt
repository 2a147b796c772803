-- The lexemes at the front of a text, and the token.
use Rattle.std.proofs.Common.{◌≡◌, ℕ, zero, suc, ◌+◌, ◌^◌, ◌<◌, ◌≤◌, ◌⊎◌, List, [], ◌∷◌, length, take, All, Contains, Option, Some, None, SomeIff, is_some, nat_le, min, subst, inl, inr, sym, arith, length-take-le, le-leb}
use Rattle.std.specs.Bool.{then_some}
use Rattle.std.proofs.lemmas.Bool.{cases_lt, cases_eq, lt-leb}
use Rattle.std.proofs.lemmas.List.{take_all}
use Rattle.std.proofs.lemmas.List.Elements.{All-head, All-tail, All-cons}
use Rattle.spf_base.specs.Word.{IsLetter, IsDigit, IsWordByte, IsWord}
use Rattle.spf_lex.specs.Lexeme.{IsNumber, symbols, value_of, IsLexeme, IsInLimits, IsToken}
use Rattle.spf_lex.specs.Front.{BeginsWith, IsRun, IsLongest, IsLengthOf}
use Rattle.spf_lex.proofs.Fronts.{BeginsWith-apart, BeginsWith-take, run_is_longest, run_nonempty, longest_unique}
use Rattle.spf_lex.proofs.Symbols.{BeginsSymbol, symbol_begins, length-symbol}

-- the first byte of each kind of lexeme

pub word_begins : (bytes : List ℕ) → IsWord bytes → BeginsWith IsLetter bytes
word_begins [] word = word
word_begins (b ∷ bs) word = word.0

pub number_begins : (bytes : List ℕ) → IsNumber bytes → BeginsWith IsDigit bytes
number_begins [] number = absurd (omega (arith, number.some))
number_begins (b ∷ bs) number = All-head IsDigit b bs number.digits

letter_no_digit : (b : ℕ) → IsLetter b → IsDigit b → ⊥
letter_no_digit b letter digit = elim letter [ inl small ↦ omega arith | inr large ↦ omega arith ]

letter_no_symbol : (b : ℕ) → IsLetter b → BeginsSymbol b → ⊥
letter_no_symbol b letter symbol = symbol.no_letter letter

digit_no_symbol : (b : ℕ) → IsDigit b → BeginsSymbol b → ⊥
digit_no_symbol b digit symbol = symbol.no_digit digit

pub word_no_number : (bytes : List ℕ) → IsWord bytes → IsNumber bytes → ⊥
word_no_number bytes word number =
    BeginsWith-apart IsLetter IsDigit letter_no_digit bytes (word_begins bytes word) (number_begins bytes number)

pub word_no_symbol : (bytes : List ℕ) → IsWord bytes → Contains symbols bytes → ⊥
word_no_symbol bytes word symbol =
    BeginsWith-apart IsLetter BeginsSymbol letter_no_symbol bytes (word_begins bytes word) (symbol_begins bytes symbol)

pub number_no_symbol : (bytes : List ℕ) → IsNumber bytes → Contains symbols bytes → ⊥
number_no_symbol bytes number symbol =
    BeginsWith-apart IsDigit BeginsSymbol digit_no_symbol bytes (number_begins bytes number) (symbol_begins bytes symbol)

-- a lexeme that begins with a letter is a word
pub lexeme_is_word : (bytes : List ℕ) → BeginsWith IsLetter bytes → IsLexeme bytes → IsWord bytes
lexeme_is_word bytes letter (inl word) = word
lexeme_is_word bytes letter (inr (inl number)) =
    absurd (BeginsWith-apart IsLetter IsDigit letter_no_digit bytes letter (number_begins bytes number))
lexeme_is_word bytes letter (inr (inr symbol)) =
    absurd (BeginsWith-apart IsLetter BeginsSymbol letter_no_symbol bytes letter (symbol_begins bytes symbol))

-- which kind of lexeme can stand at the front of a text, by the text's first byte

word_at : (text : List ℕ) (m : ℕ) → BeginsWith IsLetter text → IsLexeme (take m text) → IsWord (take m text)
word_at text m letter (inl word) = word
word_at text m letter (inr (inl number)) =
    absurd (BeginsWith-apart IsLetter IsDigit letter_no_digit text letter (BeginsWith-take IsDigit m text (number_begins _ number)).1)
word_at text m letter (inr (inr symbol)) =
    absurd (BeginsWith-apart IsLetter BeginsSymbol letter_no_symbol text letter (BeginsWith-take BeginsSymbol m text (symbol_begins _ symbol)).1)

number_at : (text : List ℕ) (m : ℕ) → BeginsWith IsDigit text → IsLexeme (take m text) → IsNumber (take m text)
number_at text m digit (inl word) =
    absurd (BeginsWith-apart IsLetter IsDigit letter_no_digit text (BeginsWith-take IsLetter m text (word_begins _ word)).1 digit)
number_at text m digit (inr (inl number)) = number
number_at text m digit (inr (inr symbol)) =
    absurd (BeginsWith-apart IsDigit BeginsSymbol digit_no_symbol text digit (BeginsWith-take BeginsSymbol m text (symbol_begins _ symbol)).1)

pub symbol_at : (text : List ℕ) (m : ℕ) → ¬ BeginsWith IsLetter text → ¬ BeginsWith IsDigit text → IsLexeme (take m text) → Contains symbols (take m text)
symbol_at text m no_letter no_digit (inl word) = absurd (no_letter (BeginsWith-take IsLetter m text (word_begins _ word)).1)
symbol_at text m no_letter no_digit (inr (inl number)) = absurd (no_digit (BeginsWith-take IsDigit m text (number_begins _ number)).1)
symbol_at text m no_letter no_digit (inr (inr symbol)) = symbol

-- the longest lexeme

pub word_bytes : (bytes : List ℕ) → IsWord bytes → All IsWordByte bytes
word_bytes [] word = absurd word
word_bytes (b ∷ bs) word = All-cons IsWordByte b bs (inl word.0) word.1

pub word_of_run : (text : List ℕ) (n : ℕ) → BeginsWith IsLetter text → IsRun IsWordByte text n → IsWord (take n text)
word_of_run [] n letter run = absurd letter
word_of_run (b ∷ bs) zero letter run = absurd (run.ends (inl letter))
word_of_run (b ∷ bs) (suc n) letter run = (letter, All-tail IsWordByte b (take n bs) run.each)

pub number_of_run : (text : List ℕ) (n : ℕ) → BeginsWith IsDigit text → IsRun IsDigit text n → IsNumber (take n text)
number_of_run text n digit run = record {
  some = omega (arith, run_nonempty IsDigit text n run digit, length-take-le n text run.within);
  digits = run.each;
}

longest_word : (text : List ℕ) (n : ℕ) → BeginsWith IsLetter text → IsRun IsWordByte text n → IsLongest IsLexeme text n
longest_word text n letter run = record {
  within = run.within;
  stands = inl (word_of_run text n letter run);
  longest = λ m inside lexeme. run_is_longest IsWordByte text n run m inside (word_bytes _ (word_at text m letter lexeme));
}

longest_number : (text : List ℕ) (n : ℕ) → BeginsWith IsDigit text → IsRun IsDigit text n → IsLongest IsLexeme text n
longest_number text n digit run = record {
  within = run.within;
  stands = inr (inl (number_of_run text n digit run));
  longest = λ m inside lexeme. run_is_longest IsDigit text n run m inside (number_at text m digit lexeme).digits;
}

-- the token

pub no_token : (text : List ℕ) (n : ℕ) → IsLongest IsLexeme text n → ¬ IsInLimits (take n text) → (m : ℕ) → ¬ IsToken text m
no_token text n longest passed m token =
    passed (subst (λ k. IsInLimits (take k text)) (longest_unique IsLexeme text m n token.lexeme longest) token.limits)

pub token_unique : (text : List ℕ) (m n : ℕ) → IsToken text m → IsToken text n → m ≡ n
token_unique text m n a b = longest_unique IsLexeme text m n a.lexeme b.lexeme

module _ (text : List ℕ) (n : ℕ) (letter : BeginsWith IsLetter text) (run : IsRun IsWordByte text n) where
  pub word_token : n ≤ 32 → IsToken text n
  word_token short = record {
    lexeme = longest_word text n letter run;
    limits = record {
      word = λ _. omega (arith, length-take-le n text run.within);
      number = λ number. absurd (word_no_number _ (word_of_run text n letter run) number);
    };
  }

  pub no_word_token : 32 < n → (m : ℕ) → ¬ IsToken text m
  no_word_token long =
      no_token text n (longest_word text n letter run) (λ limits. absurd (omega (arith, limits.word (word_of_run text n letter run), length-take-le n text run.within)))

module _ (text : List ℕ) (n : ℕ) (digit : BeginsWith IsDigit text) (run : IsRun IsDigit text n) where
  pub number_token : value_of (take n text) ≤ 2 ^ 63 → IsToken text n
  number_token small = record {
    lexeme = longest_number text n digit run;
    limits = record {
      word = λ word. absurd (word_no_number _ word (number_of_run text n digit run));
      number = λ _. small;
    };
  }

  pub no_number_token : ¬ (IsNumber (take n text) × (value_of (take n text) ≤ 2 ^ 63)) → (m : ℕ) → ¬ IsToken text m
  no_number_token passed =
      let number = number_of_run text n digit run in
      no_token text n (longest_number text n digit run) (λ limits. passed (number, limits.number number))

pub length_of_word : (text : List ℕ) (n : ℕ) → BeginsWith IsLetter text → IsRun IsWordByte text n → (found : Option ℕ) → found ≡ then_some (nat_le n 32) n → IsLengthOf (IsToken text) found
length_of_word text n letter run found is =
    rw is (elim (cases_lt 32 n) [
      | inl long ↦ rw (lt-leb n 32 long) (no_word_token text n letter run long)
      | inr short ↦ rw (le-leb n 32 short) (word_token text n letter run short)
    ])

pub length_of_number : (text : List ℕ) (n : ℕ) → BeginsWith IsDigit text → IsRun IsDigit text n → (value : Option ℕ) → SomeIff value (IsNumber (take n text) × (value_of (take n text) ≤ 2 ^ 63)) (value_of (take n text)) → IsLengthOf (IsToken text) (then_some (is_some value) n)
length_of_number text n digit run None none = no_number_token text n digit run none
length_of_number text n digit run (Some v) some = number_token text n digit run some.0.1

-- the value of a whole text

pub all_in_run : (P : ℕ → Type 0) (text : List ℕ) (n : ℕ) → IsRun P text n → length text ≤ n → All P text
all_in_run P text n run whole = subst (All P) (take_all n text whole) run.each

pub no_number_past_run : (text : List ℕ) (n : ℕ) → IsRun IsDigit text n → n < length text → ¬ IsNumber text
no_number_past_run text n run short number =
    let each = subst (All IsDigit) (sym (take_all (length text) text (omega arith))) number.digits in
    absurd (omega (arith, run_is_longest IsDigit text n run (length text) (omega arith) each))

pub number_found : (text : List ℕ) (v : ℕ) → IsNumber text → v ≡ min (value_of text) (2 ^ 63 + 1) → SomeIff (then_some (nat_le v (2 ^ 63)) v) (IsNumber text × (value_of text ≤ 2 ^ 63)) (value_of text)
number_found text v number capped =
    elim (cases_lt (2 ^ 63) v) [
      | inl large ↦ rw (lt-leb v (2 ^ 63) large) (λ p. absurd (omega (arith, p.1)))
      | inr small ↦ rw (le-leb v (2 ^ 63) small) ((number, omega arith), omega arith)
    ]

-- symbols

symbol_in_limits : (bytes : List ℕ) → Contains symbols bytes → IsInLimits bytes
symbol_in_limits bytes symbol = record {
  word = λ word. absurd (word_no_symbol bytes word symbol);
  number = λ number. absurd (number_no_symbol bytes number symbol);
}

module _ (text : List ℕ) (no_letter : ¬ BeginsWith IsLetter text) (no_digit : ¬ BeginsWith IsDigit text) where
  short_symbol : (m : ℕ) → m ≤ length text → IsLexeme (take m text) → m ≤ 2
  short_symbol m inside lexeme =
      omega (arith, length-symbol _ (symbol_at text m no_letter no_digit lexeme), length-take-le m text inside)

  -- a lexeme of m bytes is a symbol of one byte or of two
  one_or_two : (m : ℕ) → m ≤ length text → IsLexeme (take m text) → ((m ≡ 1) × Contains symbols (take 1 text)) ⊎ ((m ≡ 2) × Contains symbols (take 2 text))
  one_or_two m inside lexeme =
      let symbol = symbol_at text m no_letter no_digit lexeme in
      let positive = (BeginsWith-take BeginsSymbol m text (symbol_begins _ symbol)).0 in
      let short = short_symbol m inside lexeme in
      elim (cases_eq m 1) [
        | inl one ↦ inl (one, rw one at symbol)
        | inr more ↦ let two : m ≡ 2 = omega arith in inr (two, rw two at symbol)
      ]

  symbol_token : (n : ℕ) → n ≤ length text → Contains symbols (take n text) → ((m : ℕ) → m ≤ length text → IsLexeme (take m text) → m ≤ n) → IsToken text n
  symbol_token n inside symbol longest = record {
    lexeme = record { within = inside; stands = inr (inr symbol); longest = longest };
    limits = symbol_in_limits _ symbol;
  }

  pub pair_token : 2 ≤ length text → Contains symbols (take 2 text) → IsToken text 2
  pair_token inside symbol = symbol_token 2 inside symbol short_symbol

  pub mark_token : 1 ≤ length text → Contains symbols (take 1 text) → ¬ ((2 ≤ length text) × Contains symbols (take 2 text)) → IsToken text 1
  mark_token inside symbol no_pair =
      symbol_token 1 inside symbol (λ m within lexeme. elim (one_or_two m within lexeme) [ inl one ↦ omega (arith, one.0) | inr two ↦ absurd (no_pair (omega (arith, two.0), two.1)) ])

  pub no_symbol_token : ¬ ((1 ≤ length text) × Contains symbols (take 1 text)) → ¬ ((2 ≤ length text) × Contains symbols (take 2 text)) → (m : ℕ) → ¬ IsToken text m
  no_symbol_token no_mark no_pair m token =
      let inside = token.lexeme.within in
      elim (one_or_two m inside token.lexeme.stands) [ inl one ↦ no_mark (omega (arith, one.0), one.1) | inr two ↦ no_pair (omega (arith, two.0), two.1) ]
