-- Grammars as data over kinds of tokens, and the lists of kinds that are their texts.
use Rattle.std.specs.Prelude.{◌≡◌, ◌⊎◌, ◌↔◌, Bool, true, List, [], ◌∷◌, ◌++◌, Result, Ok, Err, MatchResult, ⊤}

-- a grammar over kinds of tokens
pub data Grammar (K : Type 0) : Type 0 where
  Nothing : Grammar K  -- no token
  One : K → Grammar K  -- one token of this kind
  Then : Grammar K → Grammar K → Grammar K  -- one text and then another
  Or : Grammar K → Grammar K → Grammar K  -- a text of either
  Many : Grammar K → Grammar K  -- any number of texts, one behind another

-- a text or nothing
abbrev pub optional : {K : Type 0} → Grammar K → Grammar K
optional g = Or g Nothing

-- these kinds in this order
abbrev pub sequence : {K : Type 0} → List K → Grammar K
sequence [] = Nothing
sequence (k ∷ ks) = Then (One k) (sequence ks)

-- the lists one behind another
abbrev pub joined : {K : Type 0} → List (List K) → List K
joined [] = []
joined (part ∷ parts) = part ++ joined parts

-- P holds of each list
abbrev pub Each : {K : Type 0} → (List K → Type 0) → List (List K) → Type 0
Each P [] = ⊤
Each P (part ∷ parts) = P part × Each P parts

-- the kinds are a text of the grammar
unfoldable pub In : {K : Type 0} → Grammar K → List K → Type 0
In Nothing kinds = kinds ≡ []
In (One k) kinds = kinds ≡ k ∷ []
In {K} (Then g h) kinds = (front : List K) × (back : List K) × (kinds ≡ front ++ back) × In g front × In h back
In (Or g h) kinds = In g kinds ⊎ In h kinds
In {K} (Many g) kinds = (parts : List (List K)) × (kinds ≡ joined parts) × Each (In g) parts

-- some text of the grammar begins with these kinds
abbrev pub Begins : {K : Type 0} → Grammar K → List K → Type 0
Begins {K} g front = (more : List K) × In g (front ++ more)

-- what a reader left, whether it took a text or met a fault
abbrev pub rest_of : {K : Type 0} → Result (List K) (List K) → List K
rest_of (Ok rest) = rest
rest_of (Err rest) = rest

-- a reader stopped behind the longest front that some text of the grammar begins with, and says whether that front is a text
pub record IsReading {K : Type 0} (g : Grammar K) (kinds : List K) (outcome : Result (List K) (List K)) : Type 0 where
  pub front : List K
  pub splits : kinds ≡ front ++ rest_of outcome
  pub begins : Begins g front
  pub longest : (k : K) (more : List K) → rest_of outcome ≡ k ∷ more → ¬ Begins g (front ++ k ∷ [])
  pub verdict : MatchResult outcome (λ rest. In g front) (λ rest. ¬ In g front)

-- the test is true at equal kinds alone
abbrev pub IsExact : {K : Type 0} → (K → K → Bool) → Type 0
IsExact {K} same = (a b : K) → (same a b ≡ true) ↔ (a ≡ b)
