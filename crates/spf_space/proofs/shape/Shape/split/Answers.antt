use Rattle.spf_space.proofs.Textual.{split_is_within}
use Rattle.spf_space.proofs.shape.Shape.split.Goals as goal

pub nonzero_div-ordinal : goal.nonzero_div-ordinal
nonzero_div-ordinal c = rw c.per_step-per_step.ensures (split_is_within c.args.self.now.steps c.args.self.now.loops c.args.ordinal c.requires).0

pub nonzero_rem-ordinal : goal.nonzero_rem-ordinal
nonzero_rem-ordinal c = rw c.per_step-per_step.ensures (split_is_within c.args.self.now.steps c.args.self.now.loops c.args.ordinal c.requires).0
