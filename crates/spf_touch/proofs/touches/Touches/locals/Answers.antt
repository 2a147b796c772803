use Rattle.std.proofs.Common.{arith, ap, length}
use Rattle.spf_touch.proofs.Lists.{length-cut}
use Rattle.spf_touch.proofs.touches.Touches.locals.Goals as goal

pub returns : goal.returns
returns c = omega (arith, ap length c.self.view_is, length-cut c.self.inside.touches.items 0 c.self.inside.ends.items)
