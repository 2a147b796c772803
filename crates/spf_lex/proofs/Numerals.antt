-- When a text is a numeral.
use Rattle.std.proofs.Common.{◌≡◌, ℕ, ◌<◌, ◌≤◌, ◌^◌, Bool, true, false, List, length, get_or, Option, Some, None, refl, arith}
use Rattle.std.specs.Prelude.{not, ◌&&◌, ◌==◌, nat_le, SomeIff}
use Rattle.std.specs.Char.{is_ascii_digit}
use Rattle.std.specs.List.{list_all}
use Rattle.std.proofs.lemmas.Bool.Decides.{nat_tests}
use Rattle.std.proofs.lemmas.List.Sums.{AllPass-from_list_all, list_all-from_AllPass}
use Rattle.spf_base.specs.Word.{IsDigit}
use Rattle.spf_lex.specs.Lexeme.{IsNumber, value_of, is_numeral, number_of}

both : (b c : Bool) → (b && c) ≡ true → (b ≡ true) × (c ≡ true)
both true c e = (refl, e)
both false c e = absurd cc

both_true : (b c : Bool) → b ≡ true → c ≡ true → (b && c) ≡ true
both_true b c e f = rw (e, f) refl

digit : (b : ℕ) → is_ascii_digit b ≡ true → IsDigit b
digit b e = grind (arith, nat_tests)

digit_test : (b : ℕ) → IsDigit b → is_ascii_digit b ≡ true
digit_test b h = grind (arith, nat_tests)

some_bytes : (text : List ℕ) → not (length text == 0) ≡ true → 0 < length text
some_bytes text e = grind (arith, nat_tests)

some_bytes_test : (text : List ℕ) → 0 < length text → not (length text == 0) ≡ true
some_bytes_test text h = grind (arith, nat_tests)

within : (n m : ℕ) → nat_le n m ≡ true → n ≤ m
within n m e = grind (arith, nat_tests)

within_test : (n m : ℕ) → n ≤ m → nat_le n m ≡ true
within_test n m h = grind (arith, nat_tests)

pub numeral_number : (text : List ℕ) → is_numeral text ≡ true → IsNumber text × (value_of text ≤ 2 ^ 63)
numeral_number text e =
    let front = both (not (length text == 0) && list_all is_ascii_digit text) (nat_le (value_of text) (2 ^ 63)) e in
    let digits = both (not (length text == 0)) (list_all is_ascii_digit text) front.0 in
    (record { some = some_bytes text digits.0; digits = λ k d h. digit (get_or text k d) (AllPass-from_list_all is_ascii_digit text digits.1 k d h) }, within (value_of text) (2 ^ 63) front.1)

pub number_numeral : (text : List ℕ) → IsNumber text × (value_of text ≤ 2 ^ 63) → is_numeral text ≡ true
number_numeral text h =
    both_true (not (length text == 0) && list_all is_ascii_digit text) (nat_le (value_of text) (2 ^ 63))
    (both_true (not (length text == 0)) (list_all is_ascii_digit text) (some_bytes_test text h.0.some) (list_all-from_AllPass is_ascii_digit text (λ k d l. digit_test (get_or text k d) (h.0.digits k d l))))
    (within_test (value_of text) (2 ^ 63) h.1)

not_numeral : (text : List ℕ) → ¬ (IsNumber text × (value_of text ≤ 2 ^ 63)) → is_numeral text ≡ false
not_numeral text h = go (is_numeral text) refl where
  go : (b : Bool) → is_numeral text ≡ b → is_numeral text ≡ false
  go true e = absurd (h (numeral_number text e))
  go false e = e

-- what finds the value of a number finds `number_of`
pub number_of_found : (text : List ℕ) (found : Option ℕ) → SomeIff found (IsNumber text × (value_of text ≤ 2 ^ 63)) (value_of text) → found ≡ number_of text
number_of_found text None h = rw (not_numeral text h) refl
number_of_found text (Some n) h = rw (number_numeral text h.0, h.1) refl
