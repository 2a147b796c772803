use Rattle.std.proofs.Common.{◌≡◌, ℕ, ◌<◌, ◌≤◌, true, get_or}
use Rattle.spf_touch.specs.Ordered.{is_in}
use Rattle.spf_legal.specs.Falling.{number_in}
use Rattle.spf_legal.proofs.falls.greatest_number.Given as goal

-- the greatest so far
abbrev pub invariant-loop-unit : goal.invariant-loop-unit
invariant-loop-unit l = record {
  bound : (k : ℕ) → k < l.unit-index → number_in l.shape l.places (get_or l.units k 0) ≤ l.greatest;
  some : 0 < l.greatest → (u : ℕ) × (is_in l.units u ≡ true) × (number_in l.shape l.places u ≡ l.greatest);
}
