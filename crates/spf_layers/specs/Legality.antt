-- When units are run in a legal order, and the first pair that isn't.
use Rattle.std.specs.Prelude.{ℕ, ◌<◌, ◌≤◌, List, Option, Some, None}
use Rattle.spf_space.specs.Places.{IsBelow, Place}
use Rattle.spf_touch.specs.Conflict.{Conflict}
use Rattle.spf_touch.specs.declared.touch.Touch.{Touch}

-- two conflicting units below count, of which the later one isn't run behind the earlier one
pub record IsReversed (touches : ℕ → List Touch) (place : ℕ → Place) (count p q : ℕ) : Type 0 where
  pub ascend : p < q
  pub inside : q < count
  pub conflict : Conflict (touches p) (touches q)
  pub reversed : ¬ IsBelow (place p) (place q)

-- of two conflicting units the earlier one is run first
abbrev pub IsLegal : (ℕ → List Touch) → (ℕ → Place) → ℕ → Type 0
IsLegal touches place count = (p q : ℕ) → p < q → q < count → Conflict (touches p) (touches q) → IsBelow (place p) (place q)

-- the pair is in the relation, has the least second number of all such pairs, and the greatest first one with it
pub record IsFirstPair (R : ℕ → ℕ → Type 0) (p q : ℕ) : Type 0 where
  pub there : R p q
  pub least : (a b : ℕ) → R a b → q ≤ b
  pub greatest : (a : ℕ) → R a q → a ≤ p

-- the first pair in the relation, or none
abbrev pub IsFirst : (ℕ → ℕ → Type 0) → Option (ℕ × ℕ) → Type 0
IsFirst R None = (p q : ℕ) → ¬ R p q
IsFirst R (Some (p, q)) = IsFirstPair R p q
