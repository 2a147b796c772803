-- The tokens of a text, and where it lacks one.
use Rattle.std.specs.Prelude.{ℕ, ◌≡◌, ◌≢◌, ◌≤◌, ◌<◌, ◌+◌, ◌⊎◌, List, [], ◌∷◌, length, drop, map, slice_range}
use Rattle.spf_base.specs.declared.place.Place.{Place}
use Rattle.spf_lex.specs.declared.token_list.Span.{Span}
use Rattle.spf_lex.specs.Front.{BeginsWith, IsRun}
use Rattle.spf_lex.specs.Place.{place_of}
use Rattle.spf_lex.specs.Lexeme.{IsLexeme, IsInLimits, IsToken, lexeme_of}
use Rattle.spf_lex.specs.declared.lexeme.Lexeme.{Lexeme}

-- a space, a tab, a carriage return or a line feed
abbrev pub IsBlank : ℕ → Type 0
IsBlank b = (b ≡ 32) ⊎ ((b ≡ 9) ⊎ ((b ≡ 13) ⊎ (b ≡ 10)))

-- a comment of n bytes: `#`, and all that stands before the next line feed or the end
pub record IsComment (text : List ℕ) (n : ℕ) : Type 0 where
  pub opens : BeginsWith (λ b. b ≡ 35) text
  pub line : IsRun (λ b. b ≢ 10) text n

-- one blank, or one comment
abbrev pub IsGap : List ℕ → ℕ → Type 0
IsGap text n = (BeginsWith IsBlank text × (n ≡ 1)) ⊎ IsComment text n

-- from a byte on, the text up to `to` is gaps and these tokens
pub data Reads (text : List ℕ) (to : ℕ) : ℕ → List Span → Type 0 where
  done : Reads text to to []
  gap : {at n : ℕ} {spans : List Span} → IsGap (drop at text) n → Reads text to (at + n) spans → Reads text to at spans
  token : {at n : ℕ} {spans : List Span} → IsToken (drop at text) n → Reads text to (at + n) spans → Reads text to at (record { start = at; end = at + n } ∷ spans)

-- the whole text is gaps and these tokens
abbrev pub HasTokens : List ℕ → List Span → Type 0
HasTokens text spans = Reads text (length text) 0 spans

-- the text reads up to `at`, and there stands neither a gap nor a token
pub record LacksToken (text : List ℕ) (at : ℕ) : Type 0 where
  pub before : (spans : List Span) × Reads text at 0 spans
  pub inside : at < length text
  pub no_gap : (n : ℕ) → ¬ IsGap (drop at text) n
  pub no_token : (n : ℕ) → ¬ IsToken (drop at text) n

-- a text with the spans of its tokens
pub record Tokenized : Type 0 where
  pub text : List ℕ
  pub spans : List Span

-- the bytes of each token
abbrev pub texts : Tokenized → List (List ℕ)
texts tokens = map (λ span. slice_range tokens.text span.start span.end) tokens.spans

-- the place of each token, which is that of its first byte
abbrev pub places : Tokenized → List Place
places tokens = map (λ span. place_of tokens.text span.start) tokens.spans

-- a lexeme in its limits
pub record IsTokenText (bytes : List ℕ) : Type 0 where
  pub lexeme : IsLexeme bytes
  pub limits : IsInLimits bytes

-- a text that isn't too long, with the spans of its tokens
pub record IsTokenized (text : List ℕ) (spans : List Span) : Type 0 where
  pub short : length text ≤ 67108864
  pub tokens : HasTokens text spans

-- the spans of a text's tokens, and what each token is
pub record AreTokens (text : List ℕ) (spans : List Span) (lexemes : List Lexeme) : Type 0 where
  pub tokenized : IsTokenized text spans
  pub each : lexemes ≡ map lexeme_of (texts (record { text = text; spans = spans }))
