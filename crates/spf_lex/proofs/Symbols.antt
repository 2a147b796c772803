-- The symbols: which bytes they are made of.
use Rattle.std.proofs.Common.{◌≡◌, ◌≢◌, ℕ, ◌≤◌, Bool, true, false, ◌&&◌, ◌||◌, not, nat_lt, nat_le, ◌==◌, List, [], ◌∷◌, ◌++◌, length, map, Contains, All, refl, ap, ◌∙◌, arith, lit<}
use Rattle.std.specs.Prelude.{codes}
use Rattle.std.proofs.lemmas.List.{get_or-map}
use Rattle.std.proofs.lemmas.List.Elements.{All-contains, All-map, All-append, All-from_recursion, All-contains_itself, Contains-append_left, Contains-append_right}
use Rattle.std.proofs.lemmas.List.Sums.{AllPass-from_list_all}
use Rattle.std.proofs.lemmas.Bool.Decides.{nat_tests}
use Rattle.std.proofs.lemmas.Bool.{false≢true}
use Rattle.spf_base.specs.Word.{IsLetter, IsDigit}
use Rattle.spf_lex.specs.Lexeme.{symbols}
use Rattle.spf_lex.specs.Front.{BeginsWith}
use Rattle.spf_lex.specs.Tokens.{IsBlank}

-- the bytes that are symbols
abbrev pub marks : List ℕ
marks = codes "{}[](),;:=+-*<>|"

-- the first bytes of the symbols that end in `=`
abbrev pub before_equals : List ℕ
before_equals = codes "+=!<>"

abbrev one : ℕ → List ℕ
one b = b ∷ []

abbrev with_equals : ℕ → List ℕ
with_equals a = a ∷ 61 ∷ []

abbrev pairs : List (List ℕ)
pairs = codes "->" ∷ codes ".." ∷ codes "+=" ∷ codes "==" ∷ codes "!=" ∷ codes "<=" ∷ codes ">=" ∷ []

-- what a symbol is, by its length
abbrev IsPlain : List ℕ → Type 0
IsPlain [] = ⊥
IsPlain (b ∷ []) = Contains marks b
IsPlain (a ∷ b ∷ []) = b ≡ 61 → Contains before_equals a
IsPlain (a ∷ b ∷ c ∷ rest) = ⊥

each_is_plain : All IsPlain symbols
each_is_plain =
    All-append IsPlain pairs (map one marks) (All-from_recursion IsPlain pairs (λ e. absurd (omega (arith, e)), (λ e. absurd (omega (arith, e)), (λ _. (0, lit< tt, refl), (λ _. (1, lit< tt, refl), (λ _. (2, lit< tt, refl), (λ _. (3, lit< tt, refl), (λ _. (4, lit< tt, refl), tt)))))))) (All-map IsPlain one marks (All-contains_itself marks))

pub mark_from_symbol : (b : ℕ) → Contains symbols (b ∷ []) → Contains marks b
mark_from_symbol b s = All-contains IsPlain symbols (b ∷ []) each_is_plain s

pub before_equals_from_symbol : (a : ℕ) → Contains symbols (a ∷ 61 ∷ []) → Contains before_equals a
before_equals_from_symbol a s = All-contains IsPlain symbols (a ∷ 61 ∷ []) each_is_plain s refl

pub symbol_from_mark : (b : ℕ) → Contains marks b → Contains symbols (b ∷ [])
symbol_from_mark b (k, inside, at) =
    Contains-append_right pairs (map one marks) (b ∷ []) (k, inside, get_or-map one marks k b (b ∷ []) inside ∙ ap one at)

-- whether a byte may begin a symbol: no letter, no digit, no blank and no `#`
abbrev pub may_begin : ℕ → Bool
may_begin b = nat_lt 32 b && not (b == 35) && (nat_lt b 48 || nat_lt 57 b) && (nat_lt b 65 || nat_lt 90 b) && (nat_lt b 97 || nat_lt 122 b)

abbrev pub has_symbol_shape : List ℕ → Bool
has_symbol_shape [] = false
has_symbol_shape (b ∷ bs) = may_begin b && nat_le (length bs) 1

pub symbol_shape : (bytes : List ℕ) → Contains symbols bytes → has_symbol_shape bytes ≡ true
symbol_shape bytes s = All-contains (λ bs. has_symbol_shape bs ≡ true) symbols bytes (AllPass-from_list_all has_symbol_shape symbols refl) s

-- what the first byte of a symbol is not
pub record BeginsSymbol (b : ℕ) : Type 0 where
  pub no_letter : ¬ IsLetter b
  pub no_digit : ¬ IsDigit b
  pub no_blank : ¬ IsBlank b
  pub no_hash : b ≢ 35

begins_symbol : (b : ℕ) → may_begin b ≡ true → BeginsSymbol b
begins_symbol b h = record {
  no_letter = λ p. grind (arith, nat_tests);
  no_digit = λ p. grind (arith, nat_tests);
  no_blank = λ p. grind (arith, nat_tests);
  no_hash = λ p. grind (arith, nat_tests);
}

first_of_two : (x y : Bool) → (x && y) ≡ true → x ≡ true
first_of_two true y h = refl
first_of_two false y h = h

pub symbol_begins : (bytes : List ℕ) → Contains symbols bytes → BeginsWith BeginsSymbol bytes
symbol_begins [] s = absurd (false≢true (symbol_shape [] s))
symbol_begins (b ∷ bs) s = begins_symbol b (first_of_two _ _ (symbol_shape (b ∷ bs) s))

pub length-symbol : (bytes : List ℕ) → Contains symbols bytes → length bytes ≤ 2
length-symbol [] s = omega arith
length-symbol (b ∷ bs) s = let h = symbol_shape (b ∷ bs) s in grind (arith, nat_tests)

pub symbol_from_before_equals : (a : ℕ) → Contains before_equals a → Contains symbols (a ∷ 61 ∷ [])
symbol_from_before_equals a (k, inside, at) =
    let here : Contains (map with_equals before_equals) (with_equals a) = (k, inside, get_or-map with_equals before_equals k a (with_equals a) inside ∙ ap with_equals at) in
    Contains-append_right (codes "->" ∷ codes ".." ∷ []) (map with_equals before_equals ++ map one marks) (with_equals a) (Contains-append_left (map with_equals before_equals) (map one marks) (with_equals a) here)
