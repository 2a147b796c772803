-- The front of a text.
use Rattle.std.specs.Prelude.{ℕ, ◌≤◌, List, [], ◌∷◌, length, take, drop, Option, MatchOption, All}

-- the text begins with a byte that is P
abbrev pub BeginsWith : (ℕ → Type 0) → List ℕ → Type 0
BeginsWith P [] = ⊥
BeginsWith P (b ∷ bs) = P b

-- n bytes are the longest front of the text in which each byte is P
pub record IsRun (P : ℕ → Type 0) (text : List ℕ) (n : ℕ) : Type 0 where
  pub within : n ≤ length text
  pub each : All P (take n text)
  pub ends : ¬ BeginsWith P (drop n text)

-- n bytes are the longest P at the front of the text
pub record IsLongest (P : List ℕ → Type 0) (text : List ℕ) (n : ℕ) : Type 0 where
  pub within : n ≤ length text
  pub stands : P (take n text)
  pub longest : (m : ℕ) → m ≤ length text → P (take m text) → m ≤ n

-- the number that is P is found, and none is only where there is none
abbrev pub IsLengthOf : (ℕ → Type 0) → Option ℕ → Type 0
IsLengthOf P found = MatchOption found ((n : ℕ) → ¬ P n) P
