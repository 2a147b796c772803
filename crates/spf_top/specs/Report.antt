-- What a report leaves on a sink that may fail.
use Rattle.std.specs.Prelude.{ℕ, ◌<◌, ◌≤◌, List, length, take, Option}
use Rattle.spf_io.specs.Stream.{Appends, Rose}

-- the text was appended, or a front of it where the count of faults rose
abbrev pub AppendsOrFails : Option (List ℕ) → ℕ → List ℕ → Option (List ℕ) → ℕ → Type 0
AppendsOrFails before faults text after faults_after =
    (n : ℕ) × (n ≤ length text) × Appends before (take n text) after × (n < length text → Rose faults faults_after)
