-- Numbers of units that grow from a seed: the least ones behind it, and the greatest ones before it.
use Rattle.std.specs.Prelude.{◌≡◌, ℕ, ◌+◌, ◌-◌, ◌*◌, ◌<◌, ◌≤◌, List, Option, Some, None, length, slice_index, take}
use Rattle.spf_space.specs.Layout.{iterations}
use Rattle.spf_space.specs.declared.shape.LoopShape.{LoopShape}
use Rattle.spf_touch.specs.Conflict.{Conflict}
use Rattle.spf_touch.specs.declared.touch.Touch.{Touch}
use Rattle.spf_layers.specs.Legality.{IsFirst}
use Rattle.spf_grow.specs.declared.grow_fault.GrowFault.{GrowFault}
use Rattle.spf_grow.specs.declared.grow_fault.GrowFault.TheVariants.{Reversed, Memory}

-- the ordinal of the first unit of a loop at a step: the seed units, and all behind them, are those from it on
abbrev pub first_unit : List LoopShape → ℕ → ℕ → ℕ
first_unit loops step loop_no = step * iterations loops + iterations (take loop_no loops)

-- of two conflicting units from `from` on and below count the later one hasn't the lesser number
abbrev pub DoesNotFall : (ℕ → List Touch) → ℕ → ℕ → (ℕ → ℕ) → Type 0
DoesNotFall touches from count numbers = (p q : ℕ) → from ≤ p → p < q → q < count → Conflict (touches p) (touches q) → numbers p ≤ numbers q

-- the units from `first` on have the numbers of the seed
abbrev pub HasSeed : ℕ → List ℕ → (ℕ → ℕ) → Type 0
HasSeed first seed numbers = (j : ℕ) → j < length seed → numbers (first + j) ≡ slice_index seed j

-- behind the seed units the least numbers that don't fall from these on, and before them the greatest ones that don't fall
pub record IsGrowth (touches : ℕ → List Touch) (count first : ℕ) (seed : List ℕ) (parts : ℕ) (numbers : ℕ → ℕ) : Type 0 where
  pub seeded : HasSeed first seed numbers
  pub below : (u : ℕ) → u < count → numbers u < parts
  pub rises : DoesNotFall touches 0 count numbers
  pub least : (f : ℕ → ℕ) → HasSeed first seed f → DoesNotFall touches first count f → (u : ℕ) → first ≤ u → u < count → numbers u ≤ f u
  pub greatest : (g : ℕ → ℕ) → ((u : ℕ) → u < count → g u < parts) → ((u : ℕ) → first ≤ u → u < count → g u ≡ numbers u) → DoesNotFall touches 0 count g →
      (u : ℕ) → u < count → g u ≤ numbers u

-- the number that the seed gives a seed unit
abbrev pub seed_number : ℕ → List ℕ → ℕ → ℕ
seed_number first seed u = slice_index seed (u - first)

-- two conflicting seed units, of which the later one has the lesser number
pub record Falls (touches : ℕ → List Touch) (first : ℕ) (seed : List ℕ) (p q : ℕ) : Type 0 where
  pub behind : first ≤ p
  pub ascend : p < q
  pub inside : q < first + length seed
  pub conflict : Conflict (touches p) (touches q)
  pub falls : seed_number first seed q < seed_number first seed p

-- the greatest number that is in the relation with this one, or none
abbrev pub IsLast : (ℕ → ℕ → Type 0) → ℕ → Option ℕ → Type 0
IsLast R q None = (p : ℕ) → ¬ R p q
IsLast R q (Some p) = R p q × ((a : ℕ) → R a q → a ≤ p)

-- one number for each unit, which grow from the seed
pub record IsGrown (touches : ℕ → List Touch) (count first : ℕ) (seed : List ℕ) (parts : ℕ) (numbers : List ℕ) : Type 0 where
  pub each : length numbers ≡ count
  pub growth : IsGrowth touches count first seed parts (slice_index numbers)

-- the first two seed units along which the seed falls; out of memory is free
abbrev pub IsGrowFault : (ℕ → List Touch) → ℕ → List ℕ → GrowFault → Type 0
IsGrowFault touches first seed (Reversed p q) = IsFirst (Falls touches first seed) (Some (p, q))
IsGrowFault touches first seed Memory = Unit {0}
