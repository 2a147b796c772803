use Rattle.std.proofs.Common.{◌≡◌, ℕ, ◌<◌}
use Rattle.spf_touch.specs.declared.class.Class.{Class}
use Rattle.spf_grow.specs.Bounds.{extreme_of, extremes_at}
use Rattle.spf_grow.proofs.extremes.forget.Given as goal

abbrev pub invariant-loop-extremes : goal.invariant-loop-extremes
invariant-loop-extremes l = (e : ℕ) (c : Class) → e < l.extremes-index → extreme_of (extremes_at l.bounds e) c ≡ 0
