-- How large the loops and arrays of a kernel are.
use Rattle.std.specs.Prelude.{ℕ, ◌≡◌, ◌+◌, ◌*◌, ◌≤◌, ◌<◌, ◌^◌, pos, neg_ℤ, ◌≤ℤ◌, List, [], ◌∷◌, ⊤, length}
use Rattle.std.specs.Coded.{×_prop, Coded-set, Unit-prop, coded_ℕ}
use Rattle.std.specs.List.{All, sum_by}
use Rattle.spf_space.specs.declared.shape.ArrayShape.{ArrayShape}
use Rattle.spf_space.specs.declared.shape.LoopShape.{LoopShape}

-- how many iterations the loops have together
abbrev pub iterations : List LoopShape → ℕ
iterations loops = sum_by (λ (each : LoopShape). each.extent) loops

-- how many cells the arrays have together
abbrev pub cells_in : List ArrayShape → ℕ
cells_in arrays = sum_by (λ (array : ArrayShape). array.length) arrays

-- the arrays lie one behind the other, the first one at this element
abbrev pub AreAdjacent : ℕ → List ArrayShape → Type 0
AreAdjacent from [] = ⊤
AreAdjacent from (array ∷ arrays) = (array.start ≡ from) × AreAdjacent (from + array.length) arrays

-- the greatest bound of a loop, and how many units there may be
abbrev pub limit : ℕ
limit = 4194304

-- what the type of a shape keeps
pub record IsLayout (steps : ℕ) (loops : List LoopShape) (arrays : List ArrayShape) : Type 0 where
  pub units : steps * iterations loops ≤ limit
  pub per_step : iterations loops < 2 ^ 32
  pub few : length loops < 2 ^ 32
  pub lowers : All (λ (each : LoopShape). (neg_ℤ (pos limit) ≤ℤ each.lower) × (each.lower ≤ℤ pos limit)) loops
  pub adjacent : AreAdjacent 0 arrays
  pub cells : cells_in arrays < 2 ^ 32

-- that arrays are adjacent has one proof at most, so that a type can keep it
pub AreAdjacent-prop : (from : ℕ) (arrays : List ArrayShape) → IsProp (AreAdjacent from arrays)
AreAdjacent-prop from [] = Unit-prop
AreAdjacent-prop from (array ∷ arrays) = ×_prop (Coded-set coded_ℕ array.start from) (AreAdjacent-prop (from + array.length) arrays)
