-- Productions: a grammar, what is made of its derivations, and the reader of both in one record.
use Rattle.std.specs.Prelude.{ℕ, ◌≡◌, Bool, true, false, ◌&&◌, if◌then◌else◌, List, ◌∷◌, map, Option, None, Some, Ok, ⊤, refl}
use Rattle.spf_lex.specs.Derivation.{Derivation, read_on, made}
use Rattle.spf_lex.specs.Grammar.{Grammar, Nothing, One, Then, Or, Many}
use Rattle.spf_lex.specs.Language.{Lexed, kinds}
use Rattle.spf_lex.specs.LookAhead.{nullable}
use Rattle.spf_lex.specs.Reader.{Reader, Agrees, sees, after, expect, keyword, either, kinds_of, value_of, further, repeat, list_by}
use Rattle.spf_lex.specs.Reading.{starts}
use Rattle.spf_lex.specs.declared.cursor.Token.{Token}
use Rattle.spf_lex.specs.Agreement as agreement

-- a grammar, and whether nothing is a text of it
pub record Shape (K : Type 0) (empty : Bool) : Type 0 where
  pub grammar : Grammar K
  pub can_be_empty : nullable grammar ≡ empty

-- a production: what is made of a derivation of its grammar, and a reader that gives the same
pub record Production {K : Type 0} (same : K → K → Bool) (empty : Bool) (A : Type 0) : Type 0 where
  pub shape : Shape K empty
  pub make : Derivation (Lexed K) shape.grammar → A
  pub read : Reader K A
  pub agrees : Agrees same shape.grammar make read

-- a production of this shape, as one of several that are read one behind another
pub record Steps {K : Type 0} (same : K → K → Bool) {empty : Bool} (shape : Shape K empty) (A : Type 0) : Type 0 where
  pub make : Derivation (Lexed K) shape.grammar → A
  pub read : Reader K A
  pub agrees : Agrees same shape.grammar make read

-- a text of one shape and then one of the other
abbrev pub in_turn : {K : Type 0} {one two : Bool} → Shape K one → Shape K two → Shape K (one && two)
in_turn {one = one} {two = two} g h = record { grammar = Then g.grammar h.grammar; can_be_empty = agreement.in_turn_empty g.grammar h.grammar one two g.can_be_empty h.can_be_empty }

module _ {K : Type 0} {same : K → K → Bool} where
  -- ---- one behind another

  -- a production, and then steps that may use what it gave
  infixl 10 ◌>>=◌
  abbrev pub ◌>>=◌ : {A B : Type 0} {one two : Bool} {shape : Shape K two} → (p : Production same one A) → (A → Steps same shape B) → Steps same (in_turn p.shape shape) B
  ◌>>=◌ {shape = shape} p next = record {
    make = λ d. (next (p.make d.0)).make d.1;
    read = λ tokens. read_on (p.read tokens) (λ x. (next x.0).read x.1);
    agrees = agreement.then_agrees same p.shape.grammar shape.grammar p.make (λ a. (next a).make) p.read (λ a. (next a).read) p.agrees (λ a. (next a).agrees);
  }

  infixl 10 ◌>>◌
  abbrev pub ◌>>◌ : {A B : Type 0} {one two : Bool} {shape : Shape K two} → (p : Production same one A) → Steps same shape B → Steps same (in_turn p.shape shape) B
  p >> next = p >>= (λ _. next)

  -- a last production, and what is made of what it gave
  abbrev pub last : {A B : Type 0} {empty : Bool} → (p : Production same empty A) → (A → B) → Steps same p.shape B
  last p f = record { make = λ d. f (p.make d); read = λ tokens. made f (p.read tokens); agrees = agreement.map_agrees same p.shape.grammar p.make f p.read p.agrees }

  -- nothing more, and this is made
  abbrev pub pure : {A : Type 0} → A → Steps same (record { grammar = Nothing; can_be_empty = agreement.nothing_empty K }) A
  pure a = record { make = λ d. a; read = λ tokens. Ok (a, tokens); agrees = agreement.pure_agrees same a }

  -- the production of these steps
  abbrev pub production : {A : Type 0} {empty : Bool} {shape : Shape K empty} → Steps same shape A → Production same empty A
  production {shape = shape} steps = record { shape = shape; make = steps.make; read = steps.read; agrees = steps.agrees }

  -- ---- other productions

  -- what is made of what a production gives
  infixr 11 ◌<$>◌
  abbrev pub ◌<$>◌ : {A B : Type 0} {empty : Bool} → (A → B) → Production same empty A → Production same empty B
  f <$> p = record {
    shape = p.shape;
    make = λ d. f (p.make d);
    read = λ tokens. made f (p.read tokens);
    agrees = agreement.map_agrees same p.shape.grammar p.make f p.read p.agrees;
  }

  -- a token of the kind, with its text
  abbrev pub lexed_token : K → Production same false (Lexed K)
  lexed_token kind = record {
    shape = record { grammar = One kind; can_be_empty = agreement.one_nonempty kind };
    make = λ token. token;
    read = expect same kind;
    agrees = agreement.expect_agrees same kind;
  }

  abbrev pub token : K → Production same false Token
  token kind = (λ (lexed : Lexed K). lexed.token) <$> lexed_token kind

  -- the text of a token of the kind
  abbrev pub text_of_token : K → Production same false (List ℕ)
  text_of_token kind = (λ (lexed : Lexed K). lexed.text) <$> lexed_token kind

  -- the value of a token of the kind
  abbrev pub value_of_token : K → Production same false ℕ
  value_of_token kind = (λ (lexed : Lexed K). lexed.token.value) <$> lexed_token kind

  abbrev pub nothing : Production same true ⊤
  nothing = production (pure tt)

  -- whether the next token begins a text of the production
  abbrev pub begins : {A : Type 0} {empty : Bool} → Production same empty A → List (Lexed K) → Bool
  begins p tokens = starts same p.shape.grammar (kinds tokens)

  -- one production or the other
  infixr 9 ◌or◌
  abbrev pub ◌or◌ : {A : Type 0} {empty : Bool} → Production same false A → Production same empty A → Production same empty A
  ◌or◌ {empty = empty} p q = record {
    shape = record { grammar = Or p.shape.grammar q.shape.grammar; can_be_empty = agreement.or_empty p.shape.grammar q.shape.grammar empty p.shape.can_be_empty q.shape.can_be_empty };
    make = either p.make q.make;
    read = λ tokens. if begins p tokens then p.read tokens else q.read tokens;
    agrees = agreement.or_agrees same p.shape.grammar q.shape.grammar p.make q.make p.read q.read p.shape.can_be_empty p.agrees q.agrees;
  }

  abbrev pub optional : {A : Type 0} → Production same false A → Production same true (Option A)
  optional p = (Some <$> p) or ((λ _. None) <$> nothing)

  -- whether a token of the kind comes next, which is then taken
  abbrev pub flag : K → Production same true Bool
  flag kind = record {
    shape = record { grammar = Or (One kind) Nothing; can_be_empty = agreement.optional_empty (One kind) };
    make = either (λ d. true) (λ d. false);
    read = λ tokens. Ok (sees same kind tokens, after same kind tokens);
    agrees = agreement.flag_agrees same kind;
  }

  -- a text of the production behind a token of the kind
  abbrev pub behind : {A : Type 0} {empty : Bool} → K → Production same empty A → Production same false A
  behind kind p = record {
    shape = in_turn (lexed_token kind).shape p.shape;
    make = λ d. p.make d.1;
    read = further same kind p.read;
    agrees = agreement.further_agrees same kind p.shape.grammar p.make p.read p.agrees;
  }

  -- a text of the production between a token of one kind and a token of the other
  abbrev pub between : {A : Type 0} {empty : Bool} → K → K → Production same empty A → Production same false A
  between opening closing p = production (lexed_token opening >> (p >>= (λ x. last (lexed_token closing) (λ _. x))))

  -- texts of the production, as long as one begins
  abbrev pub many : {A : Type 0} → Production same false A → Production same true (List A)
  many p = record {
    shape = record { grammar = Many p.shape.grammar; can_be_empty = agreement.many_empty p.shape.grammar };
    make = map p.make;
    read = repeat (begins p) p.read;
    agrees = agreement.many_agrees same p.shape.grammar p.make p.read p.agrees;
  }

  -- a text of the first, and then texts of the other
  abbrev pub and_more : {A : Type 0} → Production same false A → Production same false A → Production same false (List A)
  and_more p q = record {
    shape = in_turn p.shape (many q).shape;
    make = λ d. p.make d.0 ∷ map q.make d.1;
    read = λ tokens. read_on (p.read tokens) (λ x. made (λ others. x.0 ∷ others) (repeat (begins q) q.read x.1));
    agrees = agreement.and_more_agrees same p.shape.grammar q.shape.grammar p.make q.make p.read q.read (begins q) p.agrees (λ tokens. refl) q.agrees;
  }

  -- a text of the production, and further ones behind a token of the kind each
  abbrev pub separated : {A : Type 0} → K → Production same false A → Production same false (List A)
  separated kind p = record {
    shape = in_turn p.shape (record { grammar = Many (Then (One kind) p.shape.grammar); can_be_empty = agreement.many_empty (Then (One kind) p.shape.grammar) });
    make = λ d. p.make d.0 ∷ map (λ e. p.make e.1) d.1;
    read = list_by same kind p.read;
    agrees = agreement.separated_agrees same kind p.shape.grammar p.make p.read p.agrees;
  }

  -- the value of the kind that comes next: one of this entry or of the others
  abbrev pub one_of : {A : Type 0} → K × A → List (K × A) → Production same false A
  one_of entry entries = record {
    shape = record { grammar = kinds_of entry entries; can_be_empty = agreement.kinds_nonempty entry entries };
    make = value_of entry entries;
    read = keyword same (entry ∷ entries);
    agrees = agreement.keyword_agrees same entry entries;
  }
