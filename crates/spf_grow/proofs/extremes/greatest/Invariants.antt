use Rattle.std.proofs.Common.{ℕ, ◌<◌, ◌≤◌, length, get_or}
use Rattle.spf_touch.specs.declared.touch.Touch.{Touch}
use Rattle.spf_grow.specs.Bounds.{IsAbove, against_of, extremes_at}
use Rattle.spf_grow.proofs.extremes.greatest.Given as goal

-- the greatest of the touches so far
abbrev pub invariant-loop-touch : goal.invariant-loop-touch
invariant-loop-touch l = record {
  above : (k : ℕ) (d : Touch) → k < l.touch-index → k < length l.touches → against_of (extremes_at l.bounds (get_or l.touches k d).element) (get_or l.touches k d).class ≤ l.greatest;
  least : (x : ℕ) → IsAbove l.bounds l.touches x → l.greatest ≤ x;
}
