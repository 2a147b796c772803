use Rattle.std.proofs.Common.{arith, ap, sym, ◌∙◌}
use Rattle.spf_turn.proofs.Sitting.{same_table}
use Rattle.spf_turn.proofs.WordSteps.{gives_back}
use Rattle.spf_turn.proofs.turn.Turn.put.Goals as goal

pub swap-requires : goal.swap-requires
swap-requires g c = (
  c.lay.ensures.table.0 ∙ same_table (ap (λ p. p.table) c.pass.view_is) (ap (λ t. t.table) c.self.view_is) c.requires.turn,
  omega (arith, c.self.invariant.words),
  rw c.lay.ensures.full (gives_back _ _ _ _ _ _ c.pass.inside.seat.me.0 c.args.held.value c.pass.invariant.live (ap (λ p. p.holds) c.pass.view_is ∙ c.requires.holds)
      (c.requires.key ∙ sym (ap (λ t. t.key) c.self.view_is)) (c.requires.tale ∙ sym (ap (λ p. p.seen) c.pass.view_is))),
)
