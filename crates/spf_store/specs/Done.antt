-- Cells that became others.
use Rattle.std.specs.Prelude.{ℕ, ◌≡◌, ℤ, Bool}

-- the cells are as they were but for their values, of which this was made
pub record IsDone {C : Type 0} (own : C → ℕ → Bool) (value : C → ℕ → ℤ) (kept : C → C → Type 0) (act : (ℕ → ℤ) → ℕ → ℤ) (before after : C) : Type 0 where
  pub owns : (e : ℕ) → own after e ≡ own before e
  pub keeps : kept before after
  pub values : (e : ℕ) → value after e ≡ act (value before) e
