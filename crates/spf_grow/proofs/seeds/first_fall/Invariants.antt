use Rattle.std.proofs.Common.{ℕ, ◌+◌, ◌≤◌}
use Rattle.spf_touch.specs.Repeated.{touches_at}
use Rattle.spf_grow.specs.Bounds.{AreGreatest}
use Rattle.spf_grow.specs.Growth.{Falls, seed_number}
use Rattle.spf_grow.proofs.seeds.first_fall.Given as goal

-- the numbers so far are noted and fall nowhere
abbrev pub invariant-loop-position : goal.invariant-loop-position
invariant-loop-position l = record {
  noted : AreGreatest (touches_at l.touches) l.first (l.first + l.position) (seed_number l.first l.seed) l.bounds;
  nowhere : (p q : ℕ) → Falls (touches_at l.touches) l.first l.seed p q → l.first + l.position ≤ q;
}
