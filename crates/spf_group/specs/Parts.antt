-- Lists of numbers that lie one behind the other, between their starts.
use Rattle.std.specs.Prelude.{ℕ, ◌+◌, ◌-◌, ◌<◌, ◌≤◌, List, length, map}
use Rattle.std.specs.List.{range_with_len, slice_range}
use Rattle.spf_perm.specs.Perm.{at}

-- the lists
abbrev pub cut : List ℕ → List ℕ → List (List ℕ)
cut parts starts = map (λ n. slice_range parts (at starts n) (at starts (n + 1))) (range_with_len 0 (length starts - 1))

-- each list ends where it begins or behind that, and not behind the parts
pub record AreStarts (parts starts : List ℕ) : Type 0 where
  pub order : (n : ℕ) → n + 1 < length starts → at starts n ≤ at starts (n + 1)
  pub inside : (n : ℕ) → n < length starts → at starts n ≤ length parts
