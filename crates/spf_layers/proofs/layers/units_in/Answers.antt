use Rattle.std.proofs.Common.{arith, length}
use Rattle.spf_layers.proofs.Parts.{part_within}
use Rattle.spf_layers.proofs.layers.units_in.Goals as goal

pub part-requires-clause-order : goal.part-requires-clause-order
part-requires-clause-order c = let at = part_within (length c.args.units.now) 0 c.args.ends.now c.args.group 0 c.requires.ends c.requires.there in omega (arith, at.0, c.begin.ensures)

pub part-requires-clause-inside : goal.part-requires-clause-inside
part-requires-clause-inside c = (part_within (length c.args.units.now) 0 c.args.ends.now c.args.group 0 c.requires.ends c.requires.there).1
