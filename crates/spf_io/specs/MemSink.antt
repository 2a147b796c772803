-- A sink over memory: its state, and what one write does to it.
use Rattle.std.specs.Prelude.{◌≡◌, ℕ, ◌-◌, ◌<◌, ◌⊎◌, ◌++◌, min, List, length, Contains}
use Rattle.spf_io.specs.Stream.{count_up}

-- what a sink over memory is between two calls
pub record MemSinkState : Type 0 where
  pub written : List ℕ
  -- the greatest number of bytes that it takes in all
  pub room : ℕ
  -- the greatest number of bytes that a call takes
  pub piece : ℕ
  -- the numbers of the calls that fail, from 0
  pub failing : List ℕ
  pub calls : ℕ
  pub faults : ℕ

-- the call's number is one that fails, or there are bytes to write and no room is left
abbrev pub Fails : MemSinkState → List ℕ → Type 0
Fails s bytes = Contains s.failing s.calls ⊎ ((0 < length bytes) × (length s.written ≡ s.room))

-- how many of the bytes a call that doesn't fail takes
abbrev pub taken_count : MemSinkState → List ℕ → ℕ
taken_count s bytes = min (min s.piece (length bytes)) (s.room - length s.written)

-- the state after a call that took these bytes
abbrev pub after_taking : MemSinkState → List ℕ → MemSinkState
after_taking s bytes = record s { written = s.written ++ bytes; calls = count_up s.calls }

-- the state after a call that failed
abbrev pub after_failing : MemSinkState → MemSinkState
after_failing s = record s { calls = count_up s.calls; faults = count_up s.faults }
