use Rattle.std.proofs.Common.{arith, ap, length}
use Rattle.spf_touch.proofs.Lists.{length-cut}
use Rattle.spf_touch.proofs.touches.Touches.of.Goals as goal

pub list_at-requires-clause-there : goal.list_at-requires-clause-there
list_at-requires-clause-there c = omega (arith, ap length c.self.view_is, length-cut c.self.inside.touches.items 0 c.self.inside.ends.items)
