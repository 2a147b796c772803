-- Orders by keys, which are lists of numbers.
use Rattle.std.specs.Prelude.{ℕ, ◌≡◌, ◌<◌, ◌⊎◌, ◌↔◌, List, [], ◌∷◌, length}
use Rattle.spf_perm.specs.Perm.{at}

-- one list is before another: compared from the front, a proper prefix first
abbrev pub IsBefore : List ℕ → List ℕ → Type 0
IsBefore xs [] = ⊥
IsBefore [] (y ∷ ys) = Unit {0}
IsBefore (x ∷ xs) (y ∷ ys) = (x < y) ⊎ ((x ≡ y) × IsBefore xs ys)

-- one position comes before another: its key is before, or the keys are equal and it is before in the old order
abbrev pub ComesBefore : (ℕ → List ℕ) → List ℕ → ℕ → ℕ → Type 0
ComesBefore key old i j = IsBefore (key i) (key j) ⊎ ((key i ≡ key j) × (at old i < at old j))

-- the new order of a loop's positions is the stable order by these keys on the old one
pub record IsOrderedBy (key : ℕ → List ℕ) (old new : List ℕ) : Type 0 where
  pub lengths : length new ≡ length old
  pub order : (i j : ℕ) → i < length old → j < length old → (at new i < at new j) ↔ ComesBefore key old i j
