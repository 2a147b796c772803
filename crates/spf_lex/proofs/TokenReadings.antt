-- A text is read in one way only.
use Rattle.std.proofs.Common.{◌≡◌, ◌≢◌, ℕ, ◌+◌, ◌<◌, ◌≤◌, List, length, drop, subst, inl, inr, sym, refl, ◌∙◌, arith, length-drop}
use Rattle.spf_base.specs.Word.{IsLetter, IsDigit}
use Rattle.spf_lex.specs.declared.token_list.Span.{Span}
use Rattle.spf_lex.specs.Lexeme.{IsLexeme, IsToken}
use Rattle.spf_lex.specs.Front.{BeginsWith}
use Rattle.spf_lex.specs.Tokens.{IsBlank, IsGap, Reads, done, gap, token, HasTokens, LacksToken}
use Rattle.spf_lex.proofs.Fronts.{BeginsWith-apart, BeginsWith-weaker, BeginsWith-take, length-begins, run_nonempty, run_unique}
use Rattle.spf_lex.proofs.Lexemes.{word_begins, number_begins, token_unique}
use Rattle.spf_lex.proofs.Symbols.{BeginsSymbol, symbol_begins}

-- a byte at which no gap begins
abbrev BeginsNoGap : ℕ → Type 0
BeginsNoGap b = (¬ IsBlank b) × (b ≢ 35)

letter_no_gap : (b : ℕ) → IsLetter b → BeginsNoGap b
letter_no_gap b letter = (λ blank. grind arith, λ hash. grind arith)

digit_no_gap : (b : ℕ) → IsDigit b → BeginsNoGap b
digit_no_gap b digit = (λ blank. grind arith, λ hash. omega arith)

lexeme_no_gap : (bytes : List ℕ) → IsLexeme bytes → BeginsWith BeginsNoGap bytes
lexeme_no_gap bytes (inl word) = BeginsWith-weaker IsLetter BeginsNoGap letter_no_gap bytes (word_begins bytes word)
lexeme_no_gap bytes (inr (inl number)) =
    BeginsWith-weaker IsDigit BeginsNoGap digit_no_gap bytes (number_begins bytes number)
lexeme_no_gap bytes (inr (inr symbol)) =
    BeginsWith-weaker BeginsSymbol BeginsNoGap (λ b p. (p.no_blank, p.no_hash)) bytes (symbol_begins bytes symbol)

token_begins : (text : List ℕ) (n : ℕ) → IsToken text n → (0 < n) × BeginsWith BeginsNoGap text
token_begins text n t = BeginsWith-take BeginsNoGap n text (lexeme_no_gap _ t.lexeme.stands)

no_gap_and_token : (text : List ℕ) (m n : ℕ) → IsGap text m → IsToken text n → ⊥
no_gap_and_token text m n (inl blank) t =
    BeginsWith-apart IsBlank BeginsNoGap (λ b p q. q.0 p) text blank.0 (token_begins text n t).1
no_gap_and_token text m n (inr comment) t =
    BeginsWith-apart (λ b. b ≡ 35) BeginsNoGap (λ b p q. q.1 p) text comment.opens (token_begins text n t).1

blank_no_hash : (b : ℕ) → IsBlank b → b ≡ 35 → ⊥
blank_no_hash b blank hash = grind arith

gap_unique : (text : List ℕ) (m n : ℕ) → IsGap text m → IsGap text n → m ≡ n
gap_unique text m n (inl a) (inl b) = a.1 ∙ sym b.1
gap_unique text m n (inl a) (inr b) = absurd (BeginsWith-apart IsBlank (λ b. b ≡ 35) blank_no_hash text a.0 b.opens)
gap_unique text m n (inr a) (inl b) = absurd (BeginsWith-apart IsBlank (λ b. b ≡ 35) blank_no_hash text b.0 a.opens)
gap_unique text m n (inr a) (inr b) = run_unique _ text m n a.line b.line

-- a gap and a token have a byte, and stand in the text

pub record IsStep (text : List ℕ) (n : ℕ) : Type 0 where
  pub positive : 0 < n
  pub within : n ≤ length text

no_hash_then_line_feed : (b : ℕ) → b ≡ 35 → b ≢ 10
no_hash_then_line_feed b hash line_feed = omega arith

pub gap_step : (text : List ℕ) (n : ℕ) → IsGap text n → IsStep text n
gap_step text n (inl blank) = record {
  positive = omega (arith, blank.1);
  within = omega (arith, blank.1, length-begins IsBlank text blank.0);
}
gap_step text n (inr comment) = record {
  positive = run_nonempty (λ b. b ≢ 10) text n comment.line (BeginsWith-weaker (λ b. b ≡ 35) (λ b. b ≢ 10) no_hash_then_line_feed text comment.opens);
  within = comment.line.within;
}

pub token_step : (text : List ℕ) (n : ℕ) → IsToken text n → IsStep text n
token_step text n t = record { positive = (token_begins text n t).0; within = t.lexeme.within }

-- neither a gap nor a token stands at a byte

record StandsNothing (text : List ℕ) (at : ℕ) : Type 0 where
  no_gap : (n : ℕ) → ¬ IsGap (drop at text) n
  no_token : (n : ℕ) → ¬ IsToken (drop at text) n

nothing_at_end : (text : List ℕ) → StandsNothing text (length text)
nothing_at_end text = record {
  no_gap = λ n g. let step = gap_step _ n g in absurd (omega (arith, step.positive, step.within, length-drop (length text) text));
  no_token = λ n t. let step = token_step _ n t in absurd (omega (arith, step.positive, step.within, length-drop (length text) text));
}

nothing_at_fault : (text : List ℕ) (at : ℕ) → LacksToken text at → StandsNothing text at
nothing_at_fault text at lacks = record { no_gap = lacks.no_gap; no_token = lacks.no_token }

-- two readings from one byte that can't go on are the same
same_reading : {text : List ℕ} {m n at : ℕ} {a b : List Span} → Reads text m at a → Reads text n at b → StandsNothing text m → StandsNothing text n → (m ≡ n) × (a ≡ b)
same_reading done done p q = (refl, refl)
same_reading done (gap g s) p q = absurd (p.no_gap _ g)
same_reading done (token t s) p q = absurd (p.no_token _ t)
same_reading (gap g r) done p q = absurd (q.no_gap _ g)
same_reading {text} {m} {n} {at} (gap {n = k} g r) (gap {n = l} {spans} h s) p q =
    same_reading r (subst (λ j. Reads text n (at + j) spans) (gap_unique _ l k h g) s) p q
same_reading (gap g r) (token t s) p q = absurd (no_gap_and_token _ _ _ g t)
same_reading (token t r) done p q = absurd (q.no_token _ t)
same_reading (token t r) (gap g s) p q = absurd (no_gap_and_token _ _ _ g t)
same_reading {text} {m} {n} {at} (token {n = k} t r) (token {n = l} {spans} u s) p q =
    let lengths = token_unique _ l k u t in
    let same = same_reading r (subst (λ j. Reads text n (at + j) spans) lengths s) p q in
    (same.0, cc)

pub one_reading : (text : List ℕ) (a b : List Span) → HasTokens text a → HasTokens text b → a ≡ b
one_reading text a b p q = (same_reading p q (nothing_at_end text) (nothing_at_end text)).1

pub one_fault : (text : List ℕ) (m n : ℕ) → LacksToken text m → LacksToken text n → m ≡ n
one_fault text m n p q = (same_reading p.before.1 q.before.1 (nothing_at_fault text m p) (nothing_at_fault text n q)).0

pub no_reading_and_fault : (text : List ℕ) (a : List Span) (n : ℕ) → HasTokens text a → LacksToken text n → ⊥
no_reading_and_fault text a n p q =
    absurd (omega (arith, q.inside, (same_reading p q.before.1 (nothing_at_end text) (nothing_at_fault text n q)).0))
