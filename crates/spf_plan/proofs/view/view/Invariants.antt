use Rattle.std.proofs.Common.{◌≡◌, ◌+◌, ◌<◌, ◌^◌, length}
use Rattle.spf_plan.specs.Seeded.{elements_before, starts_before}
use Rattle.spf_plan.proofs.view.view.Given as goal

abbrev pub invariant-loop-position : goal.invariant-loop-position
invariant-loop-position l = record {
  starts : l.starts ≡ starts_before l.touches l.shape l.of l.order (l.position + 1);
  elements : l.elements ≡ elements_before l.touches l.shape l.of l.order l.position;
  few : length l.elements < 2 ^ 32;
}
