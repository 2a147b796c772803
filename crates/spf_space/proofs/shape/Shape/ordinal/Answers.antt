use Rattle.std.proofs.Common.{arith}
use Rattle.spf_space.proofs.Textual.{ordinal_is_within, stands}
use Rattle.spf_space.proofs.shape.Shape.ordinal.Goals as goal

pub overflow_add-result-2 : goal.overflow_add-result-2
overflow_add-result-2 c =
    let shape = c.args.self.now in
    rw (c.per_step.ensures, c.before-before.ensures) (omega (arith, ordinal_is_within shape.steps shape.loops c.args.unit.now c.requires, shape.layout.units))

pub returns : goal.returns
returns c = rw (c.per_step.ensures, c.before-before.ensures) (stands c.args.self.now.steps c.args.self.now.loops c.args.unit.now c.requires)
