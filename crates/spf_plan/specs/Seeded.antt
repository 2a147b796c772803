-- What a seed sees of a loop in its order, and the parts that it gives.
use Rattle.std.specs.Prelude.{ℕ, ◌≡◌, ◌+◌, ◌*◌, ◌/◌, List, [], flat_map, length, map, slice_index_or, take}
use Rattle.std.specs.List.{range_with_len}
use Rattle.spf_touch.specs.declared.touch.Touch.{Touch}
use Rattle.spf_space.specs.Layout.{iterations}
use Rattle.spf_space.specs.declared.shape.Shape.{Shape}
use Rattle.spf_script.specs.declared.resolved.Seed.{Seed}
use Rattle.spf_script.specs.declared.resolved.Seed.TheVariants.{Block, Spread, Plug}
use Rattle.spf_seed.specs.Spread.{IsSpread}
use Rattle.spf_seed.specs.declared.view.SeedView.{SeedView}
use Rattle.spf_plan.specs.Planned.{iteration_at}

module _ (touches : List (List Touch)) (shape : Shape) (of : ℕ) (order : List ℕ) where
  -- the elements that the iteration at a position touches
  abbrev pub elements_at : ℕ → List ℕ
  elements_at position = map (λ (t : Touch). t.element) (slice_index_or touches (iterations (take of shape.loops) + iteration_at order position) [])

  -- the elements touched at the positions before this one, one list behind the other
  abbrev pub elements_before : ℕ → List ℕ
  elements_before n = flat_map elements_at (range_with_len 0 n)

  -- where the elements of each position begin, and where those of the last one end
  abbrev pub starts_before : ℕ → List ℕ
  starts_before n = map (λ position. length (elements_before position)) (range_with_len 0 n)

  -- what a seed of so many parts sees of the loop
  abbrev pub view_of : ℕ → SeedView
  view_of parts = record { parts = parts; starts = starts_before (length order + 1); elements = elements_before (length order) }

  -- the list has the part that the seed gives each position
  abbrev pub IsSeedOf : Seed → ℕ → List ℕ → Type 0
  IsSeedOf Block parts list = list ≡ map (λ position. position * parts / length order) (range_with_len 0 (length order))
  IsSeedOf Spread parts list = IsSpread (view_of parts) list
  IsSeedOf (Plug number) parts list = ⊥
