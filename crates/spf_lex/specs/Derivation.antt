-- How tokens are a text of a grammar: which side each choice took, and what each part is.
use Rattle.std.specs.Prelude.{◌≡◌, ◌⊎◌, ℕ, zero, suc, Bool, List, [], ◌∷◌, ◌++◌, map, length, Result, Ok, Err, ⊤, if◌then◌else◌}
use Rattle.std.proofs.Common.{inl, inr}
use Rattle.spf_lex.specs.Grammar.{Grammar, Nothing, One, Then, Or, Many, IsReading}
use Rattle.spf_lex.specs.Reading.{starts, prefers}

-- a derivation: the token of one kind, both parts of a sequence, the side of a choice, and the parts of a repetition
abbrev pub Derivation : {K : Type 0} → Type 0 → Grammar K → Type 0
Derivation T Nothing = ⊤
Derivation T (One k) = T
Derivation T (Then g h) = Derivation T g × Derivation T h
Derivation T (Or g h) = Derivation T g ⊎ Derivation T h
Derivation T (Many g) = List (Derivation T g)

-- the tokens are these parts, one behind another
abbrev pub SpellsEach : {D T : Type 0} → (List T → D → Type 0) → List T → List D → Type 0
SpellsEach Spelled tokens [] = tokens ≡ []
SpellsEach {D} {T} Spelled tokens (d ∷ ds) = (front : List T) × (back : List T) × (tokens ≡ front ++ back) × Spelled front d × SpellsEach Spelled back ds

module _ {K T : Type 0} (kind : T → K) where
  -- the tokens are the text with this derivation
  unfoldable pub Spells : (g : Grammar K) → List T → Derivation T g → Type 0
  Spells Nothing tokens d = tokens ≡ []
  Spells (One k) tokens d = (tokens ≡ d ∷ []) × (kind d ≡ k)
  Spells (Then g h) tokens d = (front : List T) × (back : List T) × (tokens ≡ front ++ back) × Spells g front d.0 × Spells h back d.1
  Spells (Or g h) tokens (inl d) = Spells g tokens d
  Spells (Or g h) tokens (inr d) = Spells h tokens d
  Spells (Many g) tokens ds = SpellsEach (Spells g) tokens ds

-- what was read and what is left, or what was left at a fault
abbrev pub Outcome : Type 0 → Type 0 → Type 0
Outcome T D = Result (D × List T) (List T)

-- goes on behind what was read
abbrev pub read_on : {T A B : Type 0} → Outcome T A → (A × List T → Outcome T B) → Outcome T B
read_on (Ok x) next = next x
read_on (Err rest) next = Err rest

-- makes this of what was read
abbrev pub made : {T A B : Type 0} → (A → B) → Outcome T A → Outcome T B
made make (Ok x) = Ok (make x.0, x.1)
made make (Err rest) = Err rest

-- reads parts as long as one begins, at most so many
abbrev pub read_many : {T D : Type 0} → (List T → Bool) → (List T → Outcome T D) → ℕ → List T → Outcome T (List D)
read_many begins read zero tokens = Ok ([], tokens)
read_many begins read (suc n) tokens =
    if begins tokens then read_on (read tokens) (λ d. made (λ ds. d.0 ∷ ds) (read_many begins read n d.1)) else Ok ([], tokens)

module _ {K T : Type 0} (same : K → K → Bool) (kind : T → K) where
  -- the derivation of a text that looking at the next token alone finds
  unfoldable pub derive : (g : Grammar K) → List T → Outcome T (Derivation T g)
  derive Nothing tokens = Ok (tt, tokens)
  derive (One k) [] = Err []
  derive (One k) (t ∷ tokens) = if same (kind t) k then Ok (t, tokens) else Err (t ∷ tokens)
  derive (Then g h) tokens = read_on (derive g tokens) (λ d. made (λ e. (d.0, e)) (derive h d.1))
  derive (Or g h) tokens = if prefers same g h (map kind tokens) then made inl (derive g tokens) else made inr (derive h tokens)
  derive (Many g) tokens = read_many (λ ts. starts same g (map kind ts)) (derive g) (length tokens) tokens

-- the kinds that an outcome left
abbrev pub kinds_left : {K T D : Type 0} → (T → K) → Outcome T D → Result (List K) (List K)
kinds_left kind (Ok x) = Ok (map kind x.1)
kinds_left kind (Err rest) = Err (map kind rest)

-- the tokens in front of the rest are the text with the derivation that was read
abbrev pub Derives : {K T : Type 0} → (T → K) → (g : Grammar K) → List T → Outcome T (Derivation T g) → Type 0
Derives {K} {T} kind g tokens (Ok x) = (front : List T) × (tokens ≡ front ++ x.1) × Spells kind g front x.0
Derives kind g tokens (Err rest) = ⊤

-- a reader of derivations stopped where a reader of the grammar stops, and gives the derivation of what it took
pub record IsDerivation {K T : Type 0} (kind : T → K) (g : Grammar K) (tokens : List T) (outcome : Outcome T (Derivation T g)) : Type 0 where
  pub reading : IsReading g (map kind tokens) (kinds_left kind outcome)
  pub derives : Derives kind g tokens outcome
