-- Words with a blank between two are spaced, so they are read as those words.
use Rattle.std.proofs.Common.{◌≡◌, ◌≢◌, ℕ, ◌≤◌, true, not, ◌==◌, List, [], ◌∷◌, ◌++◌, length, flat_map, All, subst, refl, inl, inr, arith, Contains}
use Rattle.std.proofs.lemmas.List.Elements.{All-contains, All-head, All-tail, All-drop, All-weaker}
use Rattle.std.proofs.lemmas.List.Sums.{AllPass-from_list_all}
use Rattle.std.proofs.lemmas.Bool.Decides.{nat_tests}
use Rattle.spf_base.specs.Word.{IsDigit, IsWordByte}
use Rattle.spf_lex.specs.declared.token_list.Span.{Span}
use Rattle.spf_lex.specs.Joined.{joined, has_no_blank}
use Rattle.spf_lex.specs.Lexeme.{symbols, IsLexeme}
use Rattle.spf_lex.specs.Spaced.{RunsOn, IsSpaced, nothing, one_blank, one_word}
use Rattle.spf_lex.specs.Tokens.{IsTokenText, IsTokenized, HasTokens, texts}
use Rattle.spf_lex.proofs.Lexemes.{word_bytes}
use Rattle.spf_lex.proofs.SpacedTokens.{drop_word, spaced_tokens}

-- no byte of a lexeme is a blank

abbrev pub NoBlank : ℕ → Type 0
NoBlank b = b ≢ 32

word_byte_no_blank : (b : ℕ) → IsWordByte b → NoBlank b
word_byte_no_blank b word blank = grind arith

digit_no_blank : (b : ℕ) → IsDigit b → NoBlank b
digit_no_blank b digit blank = omega arith

symbol_no_blank : (bytes : List ℕ) → Contains symbols bytes → has_no_blank bytes ≡ true
symbol_no_blank bytes s = All-contains (λ bs. has_no_blank bs ≡ true) symbols bytes (AllPass-from_list_all has_no_blank symbols refl) s

no_blank_byte : (b : ℕ) → not (b == 32) ≡ true → NoBlank b
no_blank_byte b h blank = grind (arith, nat_tests)

pub no_blanks : (bytes : List ℕ) → has_no_blank bytes ≡ true → All NoBlank bytes
no_blanks bytes h = All-weaker (λ b. not (b == 32) ≡ true) NoBlank no_blank_byte bytes (AllPass-from_list_all (λ b. not (b == 32)) bytes h)

pub lexeme_no_blank : (bytes : List ℕ) → IsLexeme bytes → All NoBlank bytes
lexeme_no_blank bytes (inl word) = All-weaker IsWordByte NoBlank word_byte_no_blank bytes (word_bytes bytes word)
lexeme_no_blank bytes (inr (inl number)) = All-weaker IsDigit NoBlank digit_no_blank bytes number.digits
lexeme_no_blank bytes (inr (inr symbol)) = no_blanks bytes (symbol_no_blank bytes symbol)

-- ---- words with a blank between two are spaced

pub all_last : (P : ℕ → Type 0) (front : List ℕ) (b : ℕ) → All P (front ++ b ∷ []) → P b
all_last P front b each = All-head P b [] (subst (All P) (drop_word front (b ∷ [])) (All-drop P (length front) (front ++ b ∷ []) each))

pub ends_at_blank : (word behind : List ℕ) → ¬ RunsOn word (32 ∷ behind)
ends_at_blank word behind lexeme = all_last NoBlank word 32 (lexeme_no_blank (word ++ 32 ∷ []) lexeme) refl

-- the words behind others
abbrev others_text : List (List ℕ) → List ℕ
others_text words = flat_map (λ next. 32 ∷ next) words

ends_at_others : (word : List ℕ) (words : List (List ℕ)) → ¬ RunsOn word (others_text words)
ends_at_others word [] = λ begins. begins
ends_at_others word (next ∷ words) = ends_at_blank word (next ++ others_text words)

word_and_others : (word : List ℕ) (words : List (List ℕ)) → All IsTokenText (word ∷ words) → IsSpaced (word ++ others_text words) (word ∷ words)
word_and_others word words each = one_word (All-head IsTokenText word words each) (ends_at_others word words) (others words (All-tail IsTokenText word words each)) where
  others : (words : List (List ℕ)) → All IsTokenText words → IsSpaced (others_text words) words
  others [] each = nothing
  others (next ∷ words) each = one_blank (one_word (All-head IsTokenText next words each) (ends_at_others next words) (others words (All-tail IsTokenText next words each)))

pub joined_spaced : (words : List (List ℕ)) → All IsTokenText words → IsSpaced (joined words) words
joined_spaced [] each = nothing
joined_spaced (word ∷ words) each = word_and_others word words each

pub joined_tokens : (words : List (List ℕ)) → All IsTokenText words → (spans : List Span) × HasTokens (joined words) spans × (texts (record { text = joined words; spans = spans }) ≡ words)
joined_tokens words each = spaced_tokens (joined words) words (joined_spaced words each)

pub joined_tokenized : (words : List (List ℕ)) → All IsTokenText words → length (joined words) ≤ 67108864 → (spans : List Span) × IsTokenized (joined words) spans × (texts (record { text = joined words; spans = spans }) ≡ words)
joined_tokenized words each short = let (spans, reads, are) = joined_tokens words each in (spans, record { short = short; tokens = reads }, are)
