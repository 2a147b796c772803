-- What a language tells apart of a token: the texts that it quotes, names, and numbers.
use Rattle.std.specs.Prelude.{ℕ, ◌+◌, ◌==◌, Bool, true, not, ◌&&◌, ◌||◌, if◌then◌else◌, List, [], ◌∷◌, map, Option, None, Some}
use Rattle.std.specs.List.{list_any}
use Rattle.std.specs.Option.{unwrap_or}
use Rattle.std.specs.Str.{bytes_eq}
use Rattle.spf_lex.specs.Lexeme.{lexeme_of}
use Rattle.spf_lex.specs.declared.lexeme.Lexeme.{Lexeme}
use Rattle.spf_lex.specs.declared.lexeme.Lexeme.TheVariants.{Word, Number, Symbol}
use Rattle.spf_lex.specs.declared.cursor.Token.{Token}

-- a quoted text and its kind
abbrev pub Entry : Type 0 → Type 0
Entry K = List ℕ × K

-- the kind of a quoted text
abbrev pub lookup : {K : Type 0} → List (Entry K) → List ℕ → Option K
lookup [] text = None
lookup (entry ∷ entries) text = if bytes_eq entry.0 text then Some entry.1 else lookup entries text

-- a language: its quoted texts, and the kinds of all other tokens
pub record Language (K : Type 0) : Type 0 where
  pub quoted : List (Entry K)
  pub name : K  -- a word that isn't quoted
  pub one : K  -- a number of value 1
  pub number : K  -- any other number
  pub other : K  -- a symbol that isn't quoted

-- a token as a reader meets it
pub record Lexed (K : Type 0) : Type 0 where
  pub kind : K
  pub text : List ℕ
  pub token : Token

abbrev pub kind_of : {K : Type 0} → Lexed K → K
kind_of lexed = lexed.kind

abbrev pub kinds : {K : Type 0} → List (Lexed K) → List K
kinds tokens = map kind_of tokens

abbrev pub value_in : Lexeme → ℕ
value_in (Number n) = n
value_in lexeme = 0

module _ {K : Type 0} (language : Language K) where
  abbrev pub kind_by : List ℕ → Lexeme → K
  kind_by text (Number n) = if n == 1 then language.one else language.number
  kind_by text Word = unwrap_or (lookup language.quoted text) language.name
  kind_by text Symbol = unwrap_or (lookup language.quoted text) language.other

  -- the token with this number and these bytes
  unfoldable pub lexed : ℕ → List ℕ → Lexed K
  lexed at text = record { kind = kind_by text (lexeme_of text); text = text; token = record { at = at; value = value_in (lexeme_of text) } }

  -- the tokens with these bytes, numbered from here on
  abbrev pub numbered : ℕ → List (List ℕ) → List (Lexed K)
  numbered at [] = []
  numbered at (text ∷ texts) = lexed at text ∷ numbered (at + 1) texts

  abbrev pub tokens_of : List (List ℕ) → List (Lexed K)
  tokens_of texts = numbered 0 texts

module _ {K : Type 0} (same : K → K → Bool) (language : Language K) where
  -- no later entry has the text of this one
  abbrev are_new : List (Entry K) → Bool
  are_new [] = true
  are_new (entry ∷ entries) = not (list_any (λ (other : Entry K). bytes_eq other.0 entry.0) entries) && are_new entries

  abbrev is_name : K → Bool
  is_name kind = same kind language.name

  -- no text is quoted twice, and a name's kind is that of no quoted text, no number and no other symbol
  abbrev pub are_apart : Bool
  are_apart =
      are_new language.quoted && not (list_any (λ (entry : Entry K). is_name entry.1) language.quoted)
      && not (is_name language.one || (is_name language.number || is_name language.other))
