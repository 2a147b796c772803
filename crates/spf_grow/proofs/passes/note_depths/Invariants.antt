use Rattle.std.proofs.Common.{get_or}
use Rattle.spf_touch.specs.Repeated.{touches_at}
use Rattle.spf_grow.specs.Bounds.{AreGreatest, depth_in}
use Rattle.spf_grow.proofs.passes.note_depths.Given as goal

abbrev pub invariant-loop-unit : goal.invariant-loop-unit
invariant-loop-unit l = AreGreatest (touches_at l.touches) l.first l.unit (depth_in (λ u. get_or l.numbers u 0) l.last) l.bounds
