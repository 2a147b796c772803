use Rattle.std.proofs.Common.{refl, arith}
use Rattle.spf_touch.specs.Repeated.{touches_at}
use Rattle.spf_grow.specs.Bounds.{depth_in}
use Rattle.spf_grow.proofs.Passing.{noted_behind, number_at}
use Rattle.spf_grow.proofs.passes.note_depths.Goals as goal

pub loop-unit-preserved : goal.loop-unit-preserved
loop-unit-preserved c =
    noted_behind (touches_at c.args.touches.now) c.args.first c.loop-unit.unit (depth_in (number_at c.args.numbers.now) c.args.last) c.loop-unit.bounds c.note.new.bounds _ (omega arith) refl
    c.loop-unit.invariant (rw c.touched.ensures at c.note.ensures)
