-- Jobs whose every history gives the source's result.
use Rattle.std.specs.Prelude.{◌≡◌, ℕ, ◌<◌, ◌≤◌, true, length, AllPairs}
use Rattle.spf_touch.specs.Conflict.{Conflict}
use Rattle.spf_touch.specs.Frame.{Behavior, IsTouched, class_at}
use Rattle.spf_touch.specs.Ordered.{IsLegalOrder, is_in}
use Rattle.spf_core.specs.History.{is_before}
use Rattle.spf_core.specs.Tiling.{Tiling, foot_of, list_of, tile_class}

-- the foot has the tile's elements in ascending order, each once, with the tile's classes, and each is a place of the cells
pub record IsFoot (units : Behavior) (job : Tiling) (t : ℕ) : Type 0 where
  pub rising : AllPairs (λ a b. a.element < b.element) (foot_of job t)
  pub classes : (e : ℕ) → class_at (foot_of job t) e ≡ tile_class units job t e
  pub places : (e : ℕ) → IsTouched (foot_of job t) e → e < length job.cells

pub record IsSound (units : Behavior) (job : Tiling) : Type 0 where
  -- there are 1 to 1,024 lists, one for each tile, and order and feet are for as many tiles
  pub tiles : (1 ≤ length job.lists) × (length job.lists ≤ 1024)
  pub orders : length job.order ≡ length job.lists
  pub footings : length job.feet ≡ length job.lists
  -- each unit stands in some list, in no other, and there once; in a list, conflicting units stand in ascending number
  pub somewhere : (u : ℕ) → u < units.count → (t : ℕ) × (t < length job.lists) × (is_in (list_of job t) u ≡ true)
  pub nowhere_else : (s t u : ℕ) → is_in (list_of job s) u ≡ true → is_in (list_of job t) u ≡ true → s ≡ t
  pub legal : (t : ℕ) → t < length job.lists → IsLegalOrder units (list_of job t)
  -- where units of two lists conflict, the list of the lesser one is before the other
  pub ordered : (s t u v : ℕ) → is_in (list_of job s) u ≡ true → is_in (list_of job t) v ≡ true → (s ≡ t → ⊥) →
      Conflict (units.touches u) (units.touches v) → u < v → is_before job.order s t ≡ true
  -- the order is transitive, and goes from lesser to greater tile
  pub transitive : (a b c : ℕ) → is_before job.order a b ≡ true → is_before job.order b c ≡ true → is_before job.order a c ≡ true
  pub upward : (a b : ℕ) → is_before job.order a b ≡ true → a < b
  pub feet : (t : ℕ) → t < length job.lists → IsFoot units job t
