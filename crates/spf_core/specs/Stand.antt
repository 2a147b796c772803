-- The state of a job's run as contracts see it.
use Rattle.std.specs.Prelude.{◌≡◌, ℕ, ◌+◌, ◌<◌, ℤ, max, List, [], ◌∷◌, ◌++◌, length, Option, slice_index_or}
use Rattle.spf_touch.specs.Frame.{Behavior}
use Rattle.spf_core.specs.Copies.{value_in}
use Rattle.spf_core.specs.Replay.{replay, values_of}
use Rattle.spf_core.specs.Tiling.{Tiling}
use Rattle.spf_core.specs.declared.event.Event.{Event}
use Rattle.spf_touch.specs.declared.touch.Touch.{Touch}

-- the order of the job, the number of workers, the events in turn, the cells, the copy of each worker in turn, and how many
-- elements the greatest foot has
pub record Stand : Type 0 where
  pub order : List (List ℕ)
  pub workers : ℕ
  pub events : List Event
  pub cells : List ℤ
  pub copies : List (List (Option ℤ))
  pub widest : ℕ

-- the copy of the worker; workers count from 1
abbrev pub copy_of : Stand → ℕ → List (Option ℤ)
copy_of state k = slice_index_or state.copies k []

-- the cells and the held copies are those of the job's replay over the events
pub record IsReplayed (units : Behavior) (job : Tiling) (state : Stand) : Type 0 where
  pub size : length state.cells ≡ length job.cells
  pub cells : (e : ℕ) → values_of state.cells e ≡ (replay units job state.events).cells e
  pub copies : (k e : ℕ) → k < state.workers → value_in (copy_of state k) e ≡ (replay units job state.events).copies (k + 1) e

-- how many elements the greatest of these feet has
abbrev pub widest_of : List (List Touch) → ℕ
widest_of [] = 0
widest_of (foot ∷ feet) = max (length foot) (widest_of feet)

-- the state after the event has it last, and what doesn't change
pub record IsAfter (old : Stand) (event : Event) (new : Stand) : Type 0 where
  pub order : new.order ≡ old.order
  pub workers : new.workers ≡ old.workers
  pub events : new.events ≡ old.events ++ event ∷ []
  pub widest : new.widest ≡ old.widest
