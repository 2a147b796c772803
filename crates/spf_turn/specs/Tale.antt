-- Tales: lists of entries, each of which is of one pass. Passes are numbered from 1.
use Rattle.std.specs.Prelude.{ℕ, ◌≤◌, ◌==◌, List}
use Rattle.std.specs.List.{filter}

-- the entries of one pass, in order
abbrev pub entries_of : {E : Type 0} → (E → ℕ) → ℕ → List E → List E
entries_of who number tale = filter (λ e. who e == number) tale

-- the number of one of the first passes
abbrev pub IsMade : ℕ → ℕ → Type 0
IsMade made number = (1 ≤ number) × (number ≤ made)
