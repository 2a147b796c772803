use Rattle.std.proofs.Common.{◌++◌, ◌∷◌, [], refl, arith, ap, sym, ◌∙◌}
use Rattle.spf_turn.proofs.Sitting.{same_table, added_is, gave_is}
use Rattle.spf_turn.proofs.WordSteps.{gives_back, adds}
use Rattle.spf_turn.proofs.turn.Turn.put_event.Goals as goal

pub fetch_add-requires : goal.fetch_add-requires
fetch_add-requires g c = (
  c.lay.ensures.table.0 ∙ same_table (ap (λ p. p.table) c.pass.view_is) (ap (λ t. t.table) c.self.view_is) c.requires.turn,
  omega (arith, c.self.invariant.words),
  rw c.lay.ensures.full (adds _ _ _ _ _ _ c.pass.inside.seat.me.0 c.args.held.value c.requires.entry.0 c.pass.invariant.live (ap (λ p. p.holds) c.pass.view_is ∙ c.requires.holds)
      (c.requires.entry.1 ∙ ap (λ p. p.seen ++ c.requires.entry.0 ∷ []) (sym c.pass.view_is)) (c.requires.entry.2 ∙ ap (λ p. p.number) (sym c.pass.view_is)) c.requires.room),
)

pub swap-requires : goal.swap-requires
swap-requires g c =
    let e = c.requires.entry.0 in
    let tale = c.requires.entry.1 ∙ ap (λ p. p.seen ++ e ∷ []) (sym c.pass.view_is) in
    let added = added_is g.R.TurnRule.tale _ _ c.pass.inside.seat.me.0 c.args.held.value e c.fetch_add.ensures.2 c.lay.ensures.full tale in (
      c.fetch_add.ensures.0 ∙ (c.lay.ensures.table.0 ∙ same_table (ap (λ p. p.table) c.pass.view_is) (ap (λ t. t.table) c.self.view_is) c.requires.turn),
      omega (arith, c.self.invariant.words),
      rw added (gives_back _ _ _ _ _ _ _ c.args.held.value c.pass.invariant.live (ap (λ p. p.holds) c.pass.view_is ∙ c.requires.holds) (c.requires.key ∙ sym (ap (λ t. t.key) c.self.view_is)) refl),
    )

pub invariant_of-pass : goal.invariant_of-pass
invariant_of-pass g c =
    let e = c.requires.entry.0 in
    let tale = c.requires.entry.1 ∙ ap (λ p. p.seen ++ e ∷ []) (sym c.pass.view_is) in
    let added = added_is g.R.TurnRule.tale _ _ c.pass.inside.seat.me.0 c.args.held.value e c.fetch_add.ensures.2 c.lay.ensures.full tale in
    let gave = gave_is _ _ _ c.args.held.value c.swap.ensures.2 added in
    rw gave record { number = c.pass.invariant.number; live = c.pass.invariant.live; alone = c.pass.invariant.alone; free = λ _. refl; holding = λ h. absurd (cc h) }
