use Rattle.std.proofs.Common.{◌≡◌, ℕ, ◌-◌, ◌<◌, ◌≤◌, length, get_or}
use Rattle.spf_touch.specs.Repeated.{touches_at}
use Rattle.spf_grow.specs.Bounds.{AreGreatest, HaveGreatest, depth_in}
use Rattle.spf_grow.proofs.passes.give_greatest.Given as goal

-- the last units before `first` have their bounds, and their depths are noted
abbrev pub invariant-loop-done : goal.invariant-loop-done
invariant-loop-done l = record {
  kept : (u : ℕ) → l.first ≤ u → get_or l.numbers u 0 ≡ get_or l.initial.numbers u 0;
  below : (u : ℕ) → l.first - l.done ≤ u → u < l.first → get_or l.numbers u 0 ≤ l.last;
  greatest : HaveGreatest (touches_at l.touches) (l.first - l.done) l.first (length l.initial.numbers) l.last (λ u. get_or l.numbers u 0);
  noted : AreGreatest (touches_at l.touches) (l.first - l.done) (length l.initial.numbers) (depth_in (λ u. get_or l.numbers u 0) l.last) l.bounds;
}
