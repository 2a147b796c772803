use Rattle.std.proofs.Common.{◌≡◌, ℕ, take}
use Rattle.spf_touch.specs.Copy.{value_or_0}
use Rattle.spf_touch.specs.Frame.{blend_at, class_at}
use Rattle.spf_core.specs.Copies.{value_in}
use Rattle.spf_core.specs.Replay.{values_of}
use Rattle.spf_core.proofs.foot.merge_foot.Given as goal

-- the elements of the touches so far are blended in, and the others are as before
abbrev pub invariant-loop-touch : goal.invariant-loop-touch
invariant-loop-touch l = (e : ℕ) → values_of l.cells e ≡ blend_at (class_at (take l.touch-index l.foot) e) (values_of l.initial.cells e) (value_or_0 (value_in l.copied e))
