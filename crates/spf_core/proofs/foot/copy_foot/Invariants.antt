use Rattle.std.proofs.Common.{◌≡◌, ℕ, length, take}
use Rattle.spf_touch.specs.Copy.{copy_at}
use Rattle.spf_touch.specs.Frame.{class_at}
use Rattle.spf_core.specs.Copies.{value_in}
use Rattle.spf_core.specs.Replay.{values_of}
use Rattle.spf_core.proofs.foot.copy_foot.Given as goal

-- the copy has the elements of the touches so far
abbrev pub invariant-loop-touch : goal.invariant-loop-touch
invariant-loop-touch l = record {
  room : length l.copied ≡ length l.cells;
  values : (e : ℕ) → value_in l.copied e ≡ copy_at (class_at (take l.touch-index l.foot) e) (values_of l.cells e);
}
