-- Words: a letter, and letters, digits and `_` after it.
use Rattle.std.specs.Prelude.{ℕ, ◌≤◌, ◌⊎◌, ◌≡◌, List, [], ◌∷◌, length, All}

-- `a` to `z` or `A` to `Z`
abbrev pub IsLetter : ℕ → Type 0
IsLetter b = ((97 ≤ b) × (b ≤ 122)) ⊎ ((65 ≤ b) × (b ≤ 90))

-- `0` to `9`
abbrev pub IsDigit : ℕ → Type 0
IsDigit b = (48 ≤ b) × (b ≤ 57)

-- what may stand behind the first letter of a word
abbrev pub IsWordByte : ℕ → Type 0
IsWordByte b = IsLetter b ⊎ (IsDigit b ⊎ (b ≡ 95))

-- a letter, and then letters, digits and `_`
abbrev pub IsWord : List ℕ → Type 0
IsWord [] = ⊥
IsWord (b ∷ bs) = IsLetter b × All IsWordByte bs

-- a word that isn't too long for a name
pub record IsName (bytes : List ℕ) : Type 0 where
  pub word : IsWord bytes
  pub short : length bytes ≤ 32
