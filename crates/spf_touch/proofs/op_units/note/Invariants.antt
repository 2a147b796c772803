use Rattle.std.proofs.Common.{◌≡◌}
use Rattle.spf_touch.proofs.Noted.{NotBefore}
use Rattle.spf_touch.proofs.op_units.note.Given as goal

-- the element isn't named so far
abbrev pub invariant-loop-place : goal.invariant-loop-place
invariant-loop-place l = record {
  same : l.touches.items ≡ l.initial.touches.items;
  free : NotBefore l.initial.touches.items l.place l.element;
}
