-- Readers of tokens: what they do with the tokens that are left, and what a call of one answers.
use Rattle.std.proofs.Common.{inl, inr}
use Rattle.std.specs.Prelude.{◌≡◌, ◌⊎◌, Bool, false, if◌then◌else◌, List, [], ◌∷◌, length, Result, Ok, Err, ⊤}
use Rattle.spf_lex.specs.Derivation.{Derivation, Outcome, read_on, made, read_many, derive}
use Rattle.spf_lex.specs.Grammar.{Grammar, One, Or}
use Rattle.spf_lex.specs.Language.{Lexed, kind_of}
use Rattle.spf_lex.specs.declared.cursor.ReadFault.{ReadFault}
use Rattle.spf_lex.specs.declared.cursor.ReadFault.TheVariants.{Syntax, Memory}
use Rattle.spf_lex.specs.declared.cursor.Unexpected.{Unexpected}

-- what a reader does with the tokens that are left
abbrev pub Reader : Type 0 → Type 0 → Type 0
Reader K A = List (Lexed K) → Outcome (Lexed K) A

-- what a call of a reader answers and leaves; want of memory is free
abbrev pub Reads : {K A : Type 0} → Outcome (Lexed K) A → Result A ReadFault → List (Lexed K) → Type 0
Reads outcome (Ok a) rest = outcome ≡ Ok (a, rest)
Reads outcome (Err Syntax) rest = outcome ≡ Err rest
Reads outcome (Err Memory) rest = ⊤

-- where memory ran out, the tokens that are left are those that were
abbrev pub Stays : {K A : Type 0} → List (Lexed K) → Result A ReadFault → List (Lexed K) → Type 0
Stays tokens (Err Memory) rest = rest ≡ tokens
Stays tokens result rest = ⊤

-- the tokens that are left are those that a fork left, or where memory ran out those that were
abbrev pub Follows : {K A : Type 0} → List (Lexed K) → List (Lexed K) → Result A ReadFault → List (Lexed K) → Type 0
Follows tokens fork (Err Memory) rest = rest ≡ tokens
Follows tokens fork result rest = rest ≡ fork

-- what a reader that takes no memory does
abbrev pub Takes : {K A : Type 0} → Outcome (Lexed K) A → Result A Unexpected → List (Lexed K) → Type 0
Takes outcome (Ok a) rest = outcome ≡ Ok (a, rest)
Takes outcome (Err unexpected) rest = outcome ≡ Err rest

-- the reader gives what is made of the grammar's derivation
abbrev pub Agrees : {K A : Type 0} → (K → K → Bool) → (grammar : Grammar K) → (Derivation (Lexed K) grammar → A) → Reader K A → Type 0
Agrees {K} same grammar make read = (tokens : List (Lexed K)) → read tokens ≡ made make (derive same kind_of grammar tokens)

-- parts as long as one begins
unfoldable pub repeat : {K A : Type 0} → (List (Lexed K) → Bool) → Reader K A → Reader K (List A)
repeat begins read tokens = read_many begins read (length tokens) tokens

module _ {K : Type 0} (same : K → K → Bool) where
  -- a token of the kind comes next
  unfoldable pub sees : K → List (Lexed K) → Bool
  sees kind [] = false
  sees kind (token ∷ tokens) = same token.kind kind

  -- what is left behind a token of the kind, if it comes next
  unfoldable pub after : K → List (Lexed K) → List (Lexed K)
  after kind [] = []
  after kind (token ∷ tokens) = if same token.kind kind then tokens else token ∷ tokens

  -- takes a token of the kind, which has to come next
  unfoldable pub expect : K → Reader K (Lexed K)
  expect kind [] = Err []
  expect kind (token ∷ tokens) = if same token.kind kind then Ok (token, tokens) else Err (token ∷ tokens)

  -- a part behind a token of the kind
  abbrev pub further : {A : Type 0} → K → Reader K A → Reader K A
  further kind read tokens = read_on (expect kind tokens) (λ x. read x.1)

  -- a part between a token of one kind and a token of the other
  abbrev pub enclosed : {A : Type 0} → K → K → Reader K A → Reader K A
  enclosed opening closing read tokens = read_on (expect opening tokens) (λ x. read_on (read x.1) (λ y. made (λ _. y.0) (expect closing y.1)))

  -- a part, and further ones behind a token of the kind each
  unfoldable pub list_by : {A : Type 0} → K → Reader K A → Reader K (List A)
  list_by kind read tokens = read_on (read tokens) (λ x. made (λ others. x.0 ∷ others) (repeat (sees kind) (further kind read) x.1))

  -- the value of the first kind of the table that comes next
  abbrev pub keyword : {A : Type 0} → List (K × A) → Reader K A
  keyword [] tokens = Err tokens
  keyword (entry ∷ entries) tokens = if sees entry.0 tokens then Ok (entry.1, after entry.0 tokens) else keyword entries tokens

-- what is made of either side of a choice
abbrev pub either : {A B C : Type 0} → (A → C) → (B → C) → A ⊎ B → C
either f g (inl a) = f a
either f g (inr b) = g b

-- one token of one of the kinds
abbrev pub kinds_of : {K A : Type 0} → K × A → List (K × A) → Grammar K
kinds_of entry [] = One entry.0
kinds_of entry (next ∷ others) = Or (One entry.0) (kinds_of next others)

-- the value of the kind that stands there
abbrev pub value_of : {K A : Type 0} → (entry : K × A) → (others : List (K × A)) → Derivation (Lexed K) (kinds_of entry others) → A
value_of entry [] d = entry.1
value_of entry (next ∷ others) (inl d) = entry.1
value_of entry (next ∷ others) (inr d) = value_of next others d
