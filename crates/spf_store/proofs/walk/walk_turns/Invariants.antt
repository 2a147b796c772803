use Rattle.spf_store.proofs.Turns.{AmongTurns}
use Rattle.spf_store.proofs.walk.walk_turns.Given as goal

abbrev pub invariant-loop-turn : goal.invariant-loop-turn
invariant-loop-turn g l =
    AmongTurns (g.V.Visitor.accepts l.visitor) (g.V.Visitor.may l.visitor) (g.V.Visitor.env l.visitor) l.fn.state l.variables l.site l.parts l.range.start l.range.end
    l.state l.turn
