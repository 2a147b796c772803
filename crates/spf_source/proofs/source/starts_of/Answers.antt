use Rattle.std.proofs.Common.{arith, length-set}
use Rattle.spf_source.proofs.Starts.{filled_more}
use Rattle.spf_source.proofs.source.starts_of.Goals as goal

pub loop-number-preserved : goal.loop-number-preserved
loop-number-preserved c = record {
  filled = filled_more c.loop-number.starts c.args.arrays.now c.loop-number.number c.index-arrays-number.result (omega arith) c.loop-number-test.true c.index-arrays-number.is c.loop-number.invariant.filled;
  room = omega (arith, length-set c.loop-number.starts c.loop-number.number c.index-arrays-number.result.start);
}
