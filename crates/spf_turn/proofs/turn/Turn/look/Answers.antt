use Rattle.std.proofs.Common.{arith, ap}
use Rattle.spf_turn.proofs.Sitting.{same_table}
use Rattle.spf_turn.proofs.WordSteps.{looks}
use Rattle.spf_turn.proofs.turn.Turn.look.Goals as goal

pub load-requires : goal.load-requires
load-requires g c = (
  same_table (ap (λ p. p.table) c.pass.view_is) (ap (λ t. t.table) c.self.view_is) c.requires,
  omega (arith, c.self.invariant.words),
  looks _ _ _ _ _ _ _ _ c.pass.invariant.live,
)
