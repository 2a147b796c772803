use Rattle.std.proofs.Common.{ap, length, arith}
use Rattle.spf_layers.proofs.Located.{elements_are}
use Rattle.spf_layers.proofs.layers.Layers.elements.Goals as goal

pub returns : goal.returns
returns c =
    let few = c.self.invariant.few in
    omega (arith, ap length c.self.view_is, elements_are c.self.inside.rows c.self.inside.ends.items c.self.invariant)
