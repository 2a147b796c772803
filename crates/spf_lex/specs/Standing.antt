-- Where a text of a production stands among the tokens of a text, and the fault of syntax where none does.
use Rattle.std.specs.Prelude.{ℕ, ◌≡◌, ◌≤◌, ◌<◌, ◌⊎◌, nat_lt, Bool, if◌then◌else◌, List, [], ◌∷◌, ◌++◌, length, take, drop, slice_get, Result, Ok, Err, ⊤}
use Rattle.std.specs.Option.{unwrap_or}
use Rattle.spf_base.specs.declared.place.Place.{Place}
use Rattle.spf_lex.specs.Derivation.{Derivation, Spells}
use Rattle.spf_lex.specs.Grammar.{In, Begins, IsReading}
use Rattle.spf_lex.specs.Language.{Language, Lexed, kind_of, kinds, tokens_of}
use Rattle.spf_lex.specs.Place.{place_of}
use Rattle.spf_lex.specs.Production.{Production}
use Rattle.spf_lex.specs.Reader.{Reader}
use Rattle.spf_lex.specs.Tokens.{Tokenized, texts, places}
use Rattle.spf_lex.specs.declared.parts.PartFault.{PartFault}
use Rattle.spf_lex.specs.declared.parts.PartFault.TheVariants.{Syntax, Memory}
use Rattle.spf_lex.specs.declared.text_kind.TextKind.{TextKind}
use Rattle.spf_lex.specs.declared.text_kind.TextKind.TheVariants.{Unexpected, End}

-- the place of token n, or the one just past the last byte
abbrev pub place_from : Tokenized → ℕ → Place
place_from tokens n = unwrap_or (slice_get (places tokens) n) (place_of tokens.text (length tokens.text))

-- what is wrong at token n, or at the end
abbrev pub kind_from : Tokenized → ℕ → TextKind
kind_from tokens n = if nat_lt n (length (texts tokens)) then Unexpected else End

-- the tokens are a text of the production, which yields this
abbrev pub Yields : {K A : Type 0} {same : K → K → Bool} {empty : Bool} → Production same empty A → List (Lexed K) → A → Type 0
Yields {K} p tokens a = (derivation : Derivation (Lexed K) p.shape.grammar) × Spells kind_of p.shape.grammar tokens derivation × (a ≡ p.make derivation)

module _ {K : Type 0} (language : Language K) (tokens : Tokenized) where
  -- the tokens from number n on
  abbrev pub tokens_from : ℕ → List (Lexed K)
  tokens_from n = drop n (tokens_of language (texts tokens))

  -- what a reader finds from token `from` on; out of memory is free
  abbrev pub FindsBy : {A : Type 0} → Reader K A → ℕ → Result (A × ℕ) PartFault → Type 0
  FindsBy read from (Ok (a, next)) = (next ≤ length (texts tokens)) × (read (tokens_from from) ≡ Ok (a, tokens_from next))
  FindsBy read from (Err (Syntax place kind)) = (at : ℕ) × (at ≤ length (texts tokens)) × (read (tokens_from from) ≡ Err (tokens_from at)) × (place ≡ place_from tokens at) × (kind ≡ kind_from tokens at)
  FindsBy read from (Err Memory) = ⊤

  -- a reader of all tokens met a fault at token `at`, or took what stands before it
  abbrev pub StopsAt : {A : Type 0} → Reader K A → ℕ → Type 0
  StopsAt {A} read at = (read (tokens_from 0) ≡ Err (tokens_from at)) ⊎ ((a : A) × (at < length (texts tokens)) × (read (tokens_from 0) ≡ Ok (a, tokens_from at)))

  -- what a reader of all tokens finds; out of memory is free
  abbrev pub ReadsAllBy : {A : Type 0} → Reader K A → Result A PartFault → Type 0
  ReadsAllBy read (Ok a) = read (tokens_from 0) ≡ Ok (a, [])
  ReadsAllBy read (Err (Syntax place kind)) = (at : ℕ) × (at ≤ length (texts tokens)) × StopsAt read at × (place ≡ place_from tokens at) × (kind ≡ kind_from tokens at)
  ReadsAllBy read (Err Memory) = ⊤

module _ {K A : Type 0} {same : K → K → Bool} {empty : Bool} (language : Language K) (p : Production same empty A) (tokens : Tokenized) where
  -- a text that yields this stands from token `from` up to token `next`
  pub record StandsAt (from next : ℕ) (a : A) : Type 0 where
    pub front : List (Lexed K)
    pub splits : tokens_from language tokens from ≡ front ++ tokens_from language tokens next
    pub within : next ≤ length (texts tokens)
    pub yields : Yields p front a

  -- token `at`, or the end, is the first behind the longest prefix that some text begins with, and that prefix is no text
  pub record IsSyntaxFault (from : ℕ) (place : Place) (kind : TextKind) : Type 0 where
    pub at : ℕ
    pub within : at ≤ length (texts tokens)
    pub reading : IsReading p.shape.grammar (kinds (tokens_from language tokens from)) (Err (kinds (tokens_from language tokens at)))
    pub place_is : place ≡ place_from tokens at
    pub kind_is : kind ≡ kind_from tokens at

  -- what looking for a text from token `from` on answers; out of memory is free
  abbrev pub FindsAt : ℕ → Result (A × ℕ) PartFault → Type 0
  FindsAt from (Ok (a, next)) = StandsAt from next a
  FindsAt from (Err (Syntax place kind)) = IsSyntaxFault from place kind
  FindsAt from (Err Memory) = ⊤

  -- all tokens are a text that yields this
  abbrev pub IsWhole : A → Type 0
  IsWhole a = Yields p (tokens_of language (texts tokens)) a

  -- the tokens before `at` begin some text, those with token `at` don't, if it is there, and all tokens are no text
  pub record IsWholeFault (place : Place) (kind : TextKind) : Type 0 where
    pub at : ℕ
    pub within : at ≤ length (texts tokens)
    pub begins : Begins p.shape.grammar (kinds (take at (tokens_of language (texts tokens))))
    pub longest : (next : Lexed K) (others : List (Lexed K)) → tokens_from language tokens at ≡ next ∷ others → ¬ Begins p.shape.grammar (kinds (take at (tokens_of language (texts tokens))) ++ next.kind ∷ [])
    pub no_text : ¬ In p.shape.grammar (kinds (tokens_of language (texts tokens)))
    pub place_is : place ≡ place_from tokens at
    pub kind_is : kind ≡ kind_from tokens at

  -- what reading all tokens as a text answers; out of memory is free
  abbrev pub ReadsWhole : Result A PartFault → Type 0
  ReadsWhole (Ok a) = IsWhole a
  ReadsWhole (Err (Syntax place kind)) = IsWholeFault place kind
  ReadsWhole (Err Memory) = ⊤
