use Rattle.std.proofs.Common.{◌≡◌, ℕ, List, All, sym, ap, ◌∙◌, subst}
use Rattle.std.proofs.lemmas.List.Elements.{All-weaker}
use mathlib.Core.List.{IsPrefix}
use Rattle.spf_turn.specs.Closing.{Represents}
use Rattle.spf_turn.specs.Passes.{PassState}
use Rattle.spf_turn.specs.Tale.{entries_of, IsMade}
use Rattle.spf_turn.proofs.Ends.{IsEnd, closes, closes_at}
use Rattle.spf_turn.proofs.turn.Turn.close.Given as given
use Rattle.spf_turn.proofs.turn.Turn.close.Goals as goal

pub unreachable-requires : goal.unreachable-requires
unreachable-requires g c =
    let passes : c.args.self.passes ≡ c.self.inside.board.shared.key.passes = ap (λ t. t.passes) (sym c.self.view_is) in
    let h = closes g.R.TurnRule.key g.R.TurnRule.tale g.R.TurnRule.who c.self.inside.board.shared.key c.join_passes-seat.result.id c.join_passes-seat.result.me.0 _ _ c.close_with-closed.ensures.values.2
    c.join_passes-seat.ensures.seated.0 c.join_passes-seat.ensures.seated.1 (c.join_passes-seat.ensures.count ∙ (c.requires.all ∙ passes)) c.take.result c.take.ensures.value in
    c.in_default.not-Some h.0 h.1

module _ (g : given.Over) (c : goal.After-free g) where
  end : IsEnd g.R.TurnRule.key g.R.TurnRule.tale g.R.TurnRule.who c.self.inside.board.shared.key c.join_passes-seat.result.me.0 c.in-Some.value
  end =
      let passes : c.args.self.passes ≡ c.self.inside.board.shared.key.passes = ap (λ t. t.passes) (sym c.self.view_is) in
      closes_at g.R.TurnRule.key g.R.TurnRule.tale g.R.TurnRule.who c.self.inside.board.shared.key c.join_passes-seat.result.id c.join_passes-seat.result.me.0 _ _ c.close_with-closed.ensures.values.2
      c.join_passes-seat.ensures.seated.0 c.join_passes-seat.ensures.seated.1 (c.join_passes-seat.ensures.count ∙ (c.requires.all ∙ passes)) c.in-Some.value c.in-Some.ensures.value

  abbrev Passed : Type 0
  Passed = PassState g.row.R-Key.Denot g.row.R-Entry.Denot

  abbrev tale : List g.row.R-Entry.Denot
  tale = g.R.TurnRule.tale c.in-Some.value

pub returns-clause-key : goal.returns-clause-key
returns-clause-key g c = (end g c).key ∙ ap (λ t. t.key) c.self.view_is

pub returns-clause-seen : goal.returns-clause-seen
returns-clause-seen g c = All-weaker (Represents g.R.TurnRule.who c.join_passes-seat.result.me.0) (λ (p : Passed g c). IsPrefix p.seen (tale g c)) (λ p f. (f (tale g c) (end g c).whole).seen) _ c.join_passes-seat.ensures.each

pub returns-clause-own : goal.returns-clause-own
returns-clause-own g c =
    All-weaker (Represents g.R.TurnRule.who c.join_passes-seat.result.me.0) (λ (p : Passed g c). entries_of g.R.TurnRule.who p.number (tale g c) ≡ p.own) (λ p f. (f (tale g c) (end g c).whole).own) _ c.join_passes-seat.ensures.each

pub returns-clause-entries : goal.returns-clause-entries
returns-clause-entries g c = subst (λ (n : ℕ). All (λ e. IsMade n (g.R.TurnRule.who e)) (tale g c)) (ap (λ t. t.passes) c.self.view_is) (end g c).entries
