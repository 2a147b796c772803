-- Given numbers are numbers of 64 bits, unless one is 2^63 without `-`.
use Rattle.std.proofs.Common.{◌≡◌, ℕ, ◌+◌, ◌-◌, ◌<◌, ◌≤◌, zero, suc, ◌^◌, Bool, true, false, cond, not, ◌&&◌, ◌==◌, nat_le, FitsSigned, List, [], ◌∷◌, length, map, take, drop, Option, Some, None, refl, arith}
use Rattle.std.specs.Prelude.{if◌then◌else◌}
use Rattle.std.specs.Char.{is_ascii_digit, is_ascii_alphabetic}
use Rattle.std.specs.Int.{w64}
use Rattle.std.specs.List.{AllByRecursion, list_all, position_from, slice_range}
use Rattle.std.specs.Option.{option_or}
use Rattle.std.specs.Str.{bytes_eq}
use Rattle.std.proofs.lemmas.Bool.{leb-true}
use Rattle.std.proofs.lemmas.Bool.Decides.{nat_tests}
use Rattle.std.proofs.lemmas.Int.{ints}
use Rattle.std.proofs.lemmas.List.{length-take}
use Rattle.spf_lex.specs.Lexeme.{lexeme_of, lexeme_by, is_numeral, value_of}
use Rattle.spf_lex.specs.declared.lexeme.Lexeme.{Lexeme}
use Rattle.spf_lex.specs.declared.lexeme.Lexeme.TheVariants.{Word, Number, Symbol}
use Rattle.spf_kernel.specs.Resolved.{signed}
use Rattle.spf_input.specs.Given.{given_at, numbers_between, numbers_from, numbers_of}
use Rattle.spf_input.specs.Rules.{found_at, is_large, large_number}
use Rattle.spf_input.specs.declared.entries.RawEntry.{RawEntry}

-- ---- a number that is written is at most 2^63

abbrev IsShort : Lexeme → Type 0
IsShort (Number number) = number ≤ 2 ^ 63
IsShort Word = Unit {0}
IsShort Symbol = Unit {0}

last_of : (a b : Bool) → a && b ≡ true → b ≡ true
last_of true b e = e
last_of false b e = absurd cc

no_number : (text : List ℕ) → IsShort (lexeme_by text None)
no_number [] = tt
no_number (b ∷ bs) = by (is_ascii_alphabetic b) where
  by : (t : Bool) → IsShort (if t then Word else Symbol)
  by true = tt
  by false = tt

lexeme_short : (text : List ℕ) → IsShort (lexeme_of text)
unfolding lexeme_of
lexeme_short text = by (is_numeral text) refl where
  by : (b : Bool) → is_numeral text ≡ b → IsShort (lexeme_by text (if b then Some (value_of text) else None))
  by true is = leb-true (value_of text) (2 ^ 63) (last_of (not (length text == 0) && list_all is_ascii_digit text) (nat_le (value_of text) (2 ^ 63)) is)
  by false is = no_number text

-- ---- the numbers of a list

-- the first of two that is found
neither : {A : Type 0} (a b : Option A) → option_or a b ≡ None → (a ≡ None) × (b ≡ None)
neither None b e = (refl, e)
neither (Some x) b e = absurd cc

not_found : (name : List ℕ) (place : Option ℕ) → found_at name place ≡ None → place ≡ None
not_found name None e = refl
not_found name (Some place) e = absurd cc

-- a number with a sign that isn't large
one_fits : (minus : Bool) (number : ℕ) → number ≤ 2 ^ 63 → is_large (signed minus number) ≡ false → FitsSigned w64 (signed minus number)
one_fits true number short small = omega (arith, ints)
one_fits false number short small = let below : number < 2 ^ 63 = grind (arith, nat_tests) in omega (arith, ints)

each_dropped : {A : Type 0} (P : A → Type 0) (n : ℕ) (xs : List A) → AllByRecursion P xs → AllByRecursion P (drop n xs)
each_dropped P zero xs each = each
each_dropped P (suc n) [] each = tt
each_dropped P (suc n) (x ∷ xs) each = each_dropped P n xs each.1

each_taken : {A : Type 0} (P : A → Type 0) (n : ℕ) (xs : List A) → AllByRecursion P xs → AllByRecursion P (take n xs)
each_taken P zero xs each = tt
each_taken P (suc n) [] each = tt
each_taken P (suc n) (x ∷ xs) each = (each.0, each_taken P n xs each.1)

each_short : (texts : List (List ℕ)) → AllByRecursion IsShort (map lexeme_of texts)
each_short [] = tt
each_short (text ∷ texts) = (lexeme_short text, each_short texts)

fits_from : (minus : Bool) (lexemes : List Lexeme) (place : ℕ) → AllByRecursion IsShort lexemes → position_from is_large place (numbers_from minus lexemes) ≡ None → AllByRecursion (FitsSigned w64) (numbers_from minus lexemes)
fits_from minus [] place short none = tt
fits_from minus (Word ∷ lexemes) place short none = fits_from true lexemes place short.1 none
fits_from minus (Symbol ∷ lexemes) place short none = fits_from true lexemes place short.1 none
fits_from minus (Number number ∷ lexemes) place short none = by (is_large (signed minus number)) refl none (fits_from false lexemes (place + 1) short.1) where
  by : (large : Bool) → is_large (signed minus number) ≡ large → cond large (Some place) (position_from is_large (place + 1) (numbers_from false lexemes)) ≡ None
      → (position_from is_large (place + 1) (numbers_from false lexemes) ≡ None → AllByRecursion (FitsSigned w64) (numbers_from false lexemes)) → AllByRecursion (FitsSigned w64) (signed minus number ∷ numbers_from false lexemes)
  by true is none behind = absurd cc
  by false is none behind = (one_fits minus number short.0 is, behind none)

pub given_fit : (texts : List (List ℕ)) (entries : List RawEntry) (name : List ℕ) → large_number (map (given_at texts) entries) ≡ None → AllByRecursion (FitsSigned w64) (numbers_of (map (given_at texts) entries) name)
given_fit texts [] name none = tt
given_fit texts (entry ∷ entries) name none =
    let parts = neither (found_at (given_at texts entry).name (position_from is_large 0 (given_at texts entry).numbers)) (large_number (map (given_at texts) entries)) none in
    by (bytes_eq name (given_at texts entry).name) (not_found (given_at texts entry).name (position_from is_large 0 (given_at texts entry).numbers) parts.0) (given_fit texts entries name parts.1)
  where
    by : (here : Bool) → position_from is_large 0 (given_at texts entry).numbers ≡ None → AllByRecursion (FitsSigned w64) (numbers_of (map (given_at texts) entries) name)
        → AllByRecursion (FitsSigned w64) (cond here (given_at texts entry).numbers (numbers_of (map (given_at texts) entries) name))
    by true none behind =
        let lexemes = map lexeme_of texts in
        let short = each_taken IsShort (entry.to - (entry.from + 1)) (drop (entry.from + 1) lexemes) (each_dropped IsShort (entry.from + 1) lexemes (each_short texts)) in
        fits_from false (slice_range lexemes (entry.from + 1) entry.to) 0 short none
    by false none behind = behind

-- ---- how many they are

many_from : (minus : Bool) (lexemes : List Lexeme) → length (numbers_from minus lexemes) ≤ length lexemes
many_from minus [] = omega arith
many_from minus (Word ∷ lexemes) = let behind = many_from true lexemes in omega arith
many_from minus (Symbol ∷ lexemes) = let behind = many_from true lexemes in omega arith
many_from minus (Number number ∷ lexemes) = let behind = many_from false lexemes in omega arith

pub many_between : (texts : List (List ℕ)) (from to : ℕ) → length (numbers_between texts from to) ≤ to
many_between texts from to =
    let lexemes = map lexeme_of texts in
    let behind = many_from false (slice_range lexemes from to) in
    let taken = length-take (to - from) (drop from lexemes) in
    omega arith
