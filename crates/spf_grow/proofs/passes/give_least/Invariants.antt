use Rattle.std.proofs.Common.{◌≡◌, ℕ, ◌<◌, ◌≤◌, get_or}
use Rattle.spf_touch.specs.Repeated.{touches_at}
use Rattle.spf_grow.specs.Bounds.{AreGreatest, HaveLeast}
use Rattle.spf_grow.proofs.passes.give_least.Given as goal

-- the units so far have their bounds, and their numbers are noted
abbrev pub invariant-loop-unit : goal.invariant-loop-unit
invariant-loop-unit l = record {
  kept : (u : ℕ) → u < l.from → get_or l.numbers u 0 ≡ get_or l.initial.numbers u 0;
  least : (first : ℕ) → first ≤ l.from → AreGreatest (touches_at l.touches) first l.from (λ u. get_or l.initial.numbers u 0) l.initial.bounds →
      HaveLeast (touches_at l.touches) first l.from l.unit (λ u. get_or l.numbers u 0) × AreGreatest (touches_at l.touches) first l.unit (λ u. get_or l.numbers u 0) l.bounds;
}
