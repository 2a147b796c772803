-- What a read and a write do to the bytes that are told, and to a count of faults.
use Rattle.std.specs.Prelude.{◌≡◌, ℕ, ◌+◌, ◌-◌, ◌^◌, ◌≤◌, min, List, Option}
use Rattle.std.specs.Io.KnownBytes.{prepend_known, append_known}

-- one more, or the greatest number of 64 bits
abbrev pub count_up : ℕ → ℕ
count_up n = min (n + 1) (2 ^ 64 - 1)

-- a count rose: it is greater than it was, or it stands at the greatest number of 64 bits
abbrev pub Rose : ℕ → ℕ → Type 0
Rose before after = count_up before ≤ after

-- the piece was taken from the front of what a source holds, where the source tells it
abbrev pub Takes : Option (List ℕ) → List ℕ → Option (List ℕ) → Type 0
Takes before piece after = before ≡ prepend_known piece after

-- the piece was appended to what stands on a sink, where the sink tells it
abbrev pub Appends : Option (List ℕ) → List ℕ → Option (List ℕ) → Type 0
Appends before piece after = after ≡ append_known before piece
