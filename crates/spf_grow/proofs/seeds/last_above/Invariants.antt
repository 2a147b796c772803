use Rattle.std.proofs.Common.{ℕ, ◌-◌, ◌≤◌}
use Rattle.spf_touch.specs.Repeated.{touches_at}
use Rattle.spf_grow.specs.Growth.{Falls}
use Rattle.spf_grow.proofs.seeds.last_above.Given as goal

-- none of the last ones so far
abbrev pub invariant-loop-back : goal.invariant-loop-back
invariant-loop-back l = (p : ℕ) → l.unit - l.back ≤ p → ¬ Falls (touches_at l.touches) l.first l.seed p l.unit
