use Rattle.std.proofs.Common.{ℕ, ◌<◌, ◌≤◌, get_or}
use Rattle.spf_legal.specs.Falling.{number_in}
use Rattle.spf_legal.proofs.falls.first_below.Given as goal

-- none so far
abbrev pub invariant-loop-unit : goal.invariant-loop-unit
invariant-loop-unit l = (k : ℕ) → k < l.unit-index → l.bound ≤ number_in l.shape l.places (get_or l.units k 0)
