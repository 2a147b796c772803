-- Words that are written: a word behind others, and the text of a number.
use Rattle.std.proofs.Common.{◌≡◌, ◌≢◌, ℕ, ◌+◌, ◌-◌, ◌/◌, ◌%◌, ◌<◌, ◌≤◌, ◌^◌, Bool, true, false, not, ◌==◌, if◌then◌else◌, List, [], ◌∷◌, ◌++◌, length, take, get_or, flat_map, All, Some, decimal, refl, sym, ap, ◌∙◌, inl, inr, arith, append_assoc, append-nil, length-append}
use Rattle.std.proofs.lemmas.Bool.{and_parts}
use Rattle.std.proofs.lemmas.Bool.Decides.{nat_tests}
use Rattle.std.proofs.lemmas.Fmt.{decimal_by_steps}
use Rattle.std.proofs.lemmas.Grind.{fold-append, flat_map-append, common_steps}
use Rattle.std.proofs.lemmas.List.Sums.{list_all-from_AllPass}
use Rattle.std.proofs.lemmas.List.Elements.{All-cons, All-nil, All-append, All-head, All-tail}
use Rattle.spf_base.specs.Word.{IsDigit, IsWord}
use Rattle.spf_lex.specs.Joined.{joined, has_no_blank, IsEnded, split}
use Rattle.spf_lex.specs.Lexeme.{IsNumber, value_of, number_of}
use Rattle.spf_lex.specs.Tokens.{IsTokenText}
use Rattle.spf_lex.proofs.Joining.{NoBlank, lexeme_no_blank}
use Rattle.spf_lex.proofs.Lexemes.{word_no_number}
use Rattle.spf_lex.proofs.Numerals.{number_numeral}

-- ---- a word behind others

split_word : (begun word rest : List ℕ) → has_no_blank word ≡ true → split begun (word ++ 32 ∷ rest) ≡ (begun ++ word) ∷ split [] rest
unfolding split
split_word begun [] rest h = ap (λ (w : List ℕ). w ∷ split [] rest) (sym (append-nil begun))
split_word begun (b ∷ word) rest h =
    let parts = and_parts (not (b == 32)) (has_no_blank word) h in
    by (b == 32) parts.0 (split_word (begun ++ b ∷ []) word rest parts.1)
  where
    by : (t : Bool) → not t ≡ true → split (begun ++ b ∷ []) (word ++ 32 ∷ rest) ≡ ((begun ++ b ∷ []) ++ word) ∷ split [] rest
        → (if t then begun ∷ split [] (word ++ 32 ∷ rest) else split (begun ++ b ∷ []) (word ++ 32 ∷ rest)) ≡ (begun ++ b ∷ word) ∷ split [] rest
    by true e next = absurd cc
    by false e next = next ∙ ap (λ (w : List ℕ). w ∷ split [] rest) (append_assoc begun (b ∷ []) word)

abbrev ended : List (List ℕ) → List ℕ
ended words = flat_map (λ word. word ++ 32 ∷ []) words

split_ended : (words : List (List ℕ)) → All (λ word. has_no_blank word ≡ true) words → split [] (ended words) ≡ words
unfolding split
split_ended [] each = refl
split_ended (word ∷ words) each =
    rw append_assoc (split_word [] word (ended words) (All-head (λ w. has_no_blank w ≡ true) word words each)
    ∙ ap (λ (ws : List (List ℕ)). word ∷ ws) (split_ended words (All-tail (λ w. has_no_blank w ≡ true) word words each)))

pub words_are : (text : List ℕ) (e : IsEnded text) → split [] text ≡ e.words
words_are text e = ap (split []) e.is ∙ split_ended e.words e.blanks

abbrev pub push_word : (text word new : List ℕ) → IsEnded text → has_no_blank word ≡ true → new ≡ (text ++ word) ++ 32 ∷ [] → IsEnded new
push_word text word new e h is = record {
  words = e.words ++ word ∷ [];
  blanks = All-append (λ w. has_no_blank w ≡ true) e.words (word ∷ []) e.blanks (All-cons (λ w. has_no_blank w ≡ true) word [] h (All-nil (λ w. has_no_blank w ≡ true)));
  is = is ∙ rw (e.is, flat_map-append, append-nil, append_assoc);
}

pub word_pushed : (text word new : List ℕ) → IsEnded text → has_no_blank word ≡ true → new ≡ (text ++ word) ++ 32 ∷ [] → split [] new ≡ split [] text ++ word ∷ []
word_pushed text word new e h is =
    words_are new (push_word text word new e h is) ∙ ap (λ (ws : List (List ℕ)). ws ++ word ∷ []) (sym (words_are text e))

-- without the blank behind the last, the words stand with a blank between two

last_blank : (word : List ℕ) (words : List (List ℕ)) → ended (word ∷ words) ≡ joined (word ∷ words) ++ 32 ∷ []
last_blank word [] = simp append-nil
last_blank word (next ∷ words) =
    append_assoc word (32 ∷ []) (ended (next ∷ words)) ∙ ap (λ (t : List ℕ). word ++ 32 ∷ t) (last_blank next words)
    ∙ sym (append_assoc word (32 ∷ joined (next ∷ words)) (32 ∷ []))

front_of : (front text : List ℕ) → text ≡ front ++ 32 ∷ [] → take (length text - 1) text ≡ front
front_of front text e = rw e (grind (arith, common_steps))

words_joined : (words : List (List ℕ)) → take (length (ended words) - 1) (ended words) ≡ joined words
words_joined [] = refl
words_joined (word ∷ words) = front_of (joined (word ∷ words)) (ended (word ∷ words)) (last_blank word words)

pub text_joined : (text : List ℕ) → IsEnded text → take (length text - 1) text ≡ joined (split [] text)
text_joined text e = rw (words_are text e) (rw e.is (words_joined e.words))

-- ---- bytes without blanks

byte_no_blank : (b : ℕ) → b ≢ 32 → not (b == 32) ≡ true
byte_no_blank b h = grind (arith, nat_tests)

pub all_no_blank : (bytes : List ℕ) → All NoBlank bytes → has_no_blank bytes ≡ true
all_no_blank bytes each = list_all-from_AllPass (λ b. not (b == 32)) bytes (λ k d inside. byte_no_blank (get_or bytes k d) (each k d inside))

pub word_has_no_blank : (bytes : List ℕ) → IsWord bytes → has_no_blank bytes ≡ true
word_has_no_blank bytes word = all_no_blank bytes (lexeme_no_blank bytes (inl word))

-- ---- the text of a number

pub record IsNumeralOf (n : ℕ) (bytes : List ℕ) : Type 0 where
  pub number : IsNumber bytes
  pub value : value_of bytes ≡ n

one_digit : (d : ℕ) → d < 10 → IsDigit (48 + d)
one_digit d h = (omega arith, omega arith)

first_digit : (n : ℕ) → n < 10 → IsNumeralOf n ((48 + n) ∷ [])
first_digit n h = record {
  number = record { some = omega arith; digits = All-cons IsDigit (48 + n) [] (one_digit n h) (All-nil IsDigit) };
  value = omega arith;
}

next_digit : (n : ℕ) (bytes : List ℕ) → 10 ≤ n → IsNumeralOf (n / 10) bytes → IsNumeralOf n (bytes ++ (48 + n % 10) ∷ [])
next_digit n bytes h e = record {
  number = record {
    some = omega (arith, length-append bytes ((48 + n % 10) ∷ []));
    digits = All-append IsDigit bytes ((48 + n % 10) ∷ []) e.number.digits (All-cons IsDigit (48 + n % 10) [] (one_digit (n % 10) (omega arith)) (All-nil IsDigit));
  };
  value = rw (fold-append, e.value) (omega arith);
}

pub decimal_numeral : (n : ℕ) → n < 2 ^ 64 → IsNumeralOf n (decimal n)
decimal_numeral n h = decimal_by_steps IsNumeralOf first_digit next_digit n h

pub decimal_has_no_blank : (n : ℕ) → n < 2 ^ 64 → has_no_blank (decimal n) ≡ true
decimal_has_no_blank n h = all_no_blank (decimal n) (lexeme_no_blank (decimal n) (inr (inl (decimal_numeral n h).number)))

pub decimal_token : (n : ℕ) → n ≤ 2 ^ 63 → IsTokenText (decimal n) × (number_of (decimal n) ≡ Some n)
decimal_token n h =
    let e = decimal_numeral n (omega arith) in
    let small : value_of (decimal n) ≤ 2 ^ 63 = omega (arith, e.value) in (
      record {
        lexeme = inr (inl e.number);
        limits = record { word = λ word. absurd (word_no_number (decimal n) word e.number); number = λ _. small };
      },
      rw (number_numeral (decimal n) (e.number, small)) (ap (λ (v : ℕ). Some v) e.value),
    )
