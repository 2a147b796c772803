use Rattle.std.proofs.Common.{arith, ap, ◌∙◌}
use Rattle.spf_turn.proofs.Sitting.{same_table, in_front}
use Rattle.spf_turn.proofs.WordSteps.{tries}
use Rattle.spf_turn.proofs.turn.Turn.try_take.Goals as goal

pub compare_exchange-found-requires : goal.compare_exchange-found-requires
compare_exchange-found-requires g c = (
  same_table (ap (λ p. p.table) c.pass.view_is) (ap (λ t. t.table) c.self.view_is) c.requires.turn,
  omega (arith, c.self.invariant.words),
  tries _ _ _ _ _ _ c.pass.inside.seat.me.0 c.pass.inside.seat.me.1 c.from-number.result c.pass.invariant.live (ap (λ p. p.holds) c.pass.view_is ∙ c.requires.free) (c.from-number.ensures ∙ c.pass.invariant.number),
)

pub exchange-requires : goal.exchange-requires
exchange-requires g c = (
  c.compare_exchange-found.ensures.0 ∙ same_table (ap (λ p. p.table) c.pass.view_is) (ap (λ t. t.table) c.self.view_is) c.requires.turn,
  (let took = c.compare_exchange-found.ensures.2.0 c.if-found-ne-FREE.false in (_, in_front took.slot)),
)
