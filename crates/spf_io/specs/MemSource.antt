-- A source over memory: its state, and what one read does to it.
use Rattle.std.specs.Prelude.{ℕ, min, List, length, drop}
use Rattle.spf_io.specs.Stream.{count_up}

-- what a source over memory is between two calls
pub record MemSourceState : Type 0 where
  -- the bytes not yet read
  pub held : List ℕ
  -- the greatest number of bytes that a call gives
  pub piece : ℕ
  -- the numbers of the calls that fail, from 0
  pub failing : List ℕ
  pub calls : ℕ
  pub faults : ℕ

-- how many bytes a call that doesn't fail gives into a slice of this length
abbrev pub given_count : MemSourceState → ℕ → ℕ
given_count s room = min (min s.piece room) (length s.held)

-- the state after a call that gave this many bytes
abbrev pub after_giving : MemSourceState → ℕ → MemSourceState
after_giving s count = record s { held = drop count s.held; calls = count_up s.calls }

-- the state after a call that failed
abbrev pub after_failing : MemSourceState → MemSourceState
after_failing s = record s { calls = count_up s.calls; faults = count_up s.faults }
