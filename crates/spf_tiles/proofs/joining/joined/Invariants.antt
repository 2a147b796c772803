use Rattle.std.proofs.Common.{◌≡◌, ℕ, ◌<◌, ◌≤◌, AllPairs, All, length, get_or, take}
use Rattle.spf_touch.specs.Frame.{class_at}
use Rattle.spf_touch.specs.declared.touch.Touch.{Touch}
use Rattle.spf_tiles.specs.Joining.{class_in}
use Rattle.spf_tiles.proofs.joining.joined.Given as goal

-- the touches so far are joined, and those that are left come at or behind them
abbrev pub invariant-loop-touch : goal.invariant-loop-touch
invariant-loop-touch l = record {
  rising : AllPairs (λ (a b : Touch). a.element < b.element) l.foot.items;
  behind : (j : ℕ) (d : Touch) → l.touch-index ≤ j → j < length l.touches → All (λ (other : Touch). other.element ≤ (get_or l.touches j d).element) l.foot.items;
  classes : (e : ℕ) → class_at l.foot.items e ≡ class_in (take l.touch-index l.touches) e;
}
