use Rattle.std.proofs.Common.{arith}
use Rattle.std.proofs.lemmas.Grind.{common_steps}
use Rattle.spf_perm.proofs.Bijections.{range_more}
use Rattle.spf_perm.proofs.entries.numbers_below.Goals as goal

pub loop-number-preserved : goal.loop-number-preserved
loop-number-preserved c = let more = range_more c.loop-number.number in grind (arith, common_steps)
