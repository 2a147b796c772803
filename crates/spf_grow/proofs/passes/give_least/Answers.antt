use Rattle.std.proofs.Common.{◌<◌, length, ◌∙◌, arith}
use Rattle.spf_touch.specs.Repeated.{touches_at}
use Rattle.spf_grow.proofs.Passing.{least_more, set_other}
use Rattle.spf_grow.proofs.passes.give_least.Goals as goal

pub loop-unit-preserved : goal.loop-unit-preserved
loop-unit-preserved c =
    let unit = c.loop-unit.unit in
    let number = c.greatest-number.result in
    let inside : unit < length c.loop-unit.numbers = omega arith in
    record {
      kept = λ u lt. set_other c.loop-unit.numbers unit number u (λ e. omega arith) ∙ c.loop-unit.invariant.kept u lt;
      least = λ first low init.
          let was = c.loop-unit.invariant.least first low init in
          least_more (touches_at c.args.touches.now) unit number c.loop-unit.numbers c.loop-unit.bounds c.note.new.bounds inside
          (rw c.touched-touched.ensures at c.greatest-number.ensures.above) (rw c.touched-touched.ensures at c.greatest-number.ensures.least) (rw c.touched-touched.ensures at c.note.ensures)
          first c.args.from low (omega arith) was.0 was.1;
    }

pub returns-clause-least : goal.returns-clause-least
returns-clause-least c first low init u low' high = (c.loop-unit.invariant.least first low init).0 u low' (omega arith)
