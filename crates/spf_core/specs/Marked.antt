-- The marks that stand for a history.
use Rattle.std.specs.Prelude.{◌≡◌, ℕ, ◌+◌, ◌≤◌, Bool, false, not, ◌==◌, List, length, Option, None, Some, count_by, slice_index_or}
use Rattle.spf_touch.specs.Ordered.{is_in}
use Rattle.spf_core.specs.History.{IsHistory, claimed_tiles, holds, published_tiles}
use Rattle.spf_core.specs.declared.event.Event.{Event}

-- what has happened: the order of the tiles, the number of workers, and the events in turn
pub record Chronicle : Type 0 where
  pub order : List (List ℕ)
  pub workers : ℕ
  pub events : List Event

-- the tile is the one that is held
abbrev pub is_held : Option ℕ → ℕ → Bool
is_held None t = false
is_held (Some s) t = t == s

-- the events are a history; a mark for each tile says whether it is claimed and published, a seat for each worker what it
-- holds, and there is room for an event for each tile that isn't claimed and each that isn't published
pub record IsMarked (past : Chronicle) (claimed published : List Bool) (held : List (Option ℕ)) (room : ℕ) : Type 0 where
  pub history : IsHistory past.order past.workers past.events
  pub claims : length claimed ≡ length past.order
  pub publications : length published ≡ length past.order
  pub seats : length held ≡ past.workers
  pub is_claimed : (t : ℕ) → slice_index_or claimed t false ≡ is_in (claimed_tiles past.events) t
  pub is_published : (t : ℕ) → slice_index_or published t false ≡ is_in (published_tiles past.events) t
  pub who_holds : (k t : ℕ) → is_held (slice_index_or held k None) t ≡ holds past.events (k + 1) t
  pub enough : length past.events + (count_by not claimed + count_by not published) ≤ room
