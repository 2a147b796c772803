use Rattle.std.proofs.Common.{ℤ, pos, ◌+ℤ◌, List, arith, subst, sym}
use Rattle.std.specs.List.{All}
use Rattle.std.proofs.lemmas.Result.{err_from_is_err_and}
use Rattle.spf_term.proofs.WalkParts.{stopped_walk}
use Rattle.spf_term.specs.Walk.{Through}
use Rattle.spf_store.specs.Trace.{turn_trace}
use Rattle.spf_store.specs.Small.{IsSmallPart}
use Rattle.spf_store.proofs.Turns.{all_turned, at_first, between_within, may_turn, turned, turn_stopped}
use Rattle.spf_store.proofs.walk.walk_turns.Goals as goal

pub loop-turn-init : goal.loop-turn-init
loop-turn-init g c =
    at_first (g.V.Visitor.accepts c.args.visitor.now) (g.V.Visitor.may c.args.visitor.now) (g.V.Visitor.env c.args.visitor.now) c.args.state.now c.args.variables.now
    c.args.site c.args.parts.now c.args.range.now.start c.args.range.now.end c.requires.may

pub walk_turn-requires-clause-small : goal.walk_turn-requires-clause-small
walk_turn-requires-clause-small g c =
    let inside = rw c.extent-turn-end.ensures at c.loop-turn-test.true in
    let low = c.args.range.now.start in
    let small = c.requires.small (low +ℤ pos c.loop-turn.turn) (between_within low c.args.range.now.end c.loop-turn.turn c.requires.low c.requires.high inside) in
    subst (λ (both : List ℤ). All (IsSmallPart (g.V.Visitor.env c.args.visitor.now) both) c.args.parts.now) (sym c.turn_variables-both.ensures) small

pub walk_turn-requires-clause-may : goal.walk_turn-requires-clause-may
walk_turn-requires-clause-may g c =
    let inside = rw c.extent-turn-end.ensures at c.loop-turn-test.true in
    subst (λ (both : List ℤ). All (g.V.Visitor.may c.args.visitor.now c.loop-turn.state) (turn_trace (g.V.Visitor.env c.args.visitor.now) both c.args.site c.args.parts.now))
    (sym c.turn_variables-both.ensures) (may_turn (g.V.Visitor.accepts c.args.visitor.now) (g.V.Visitor.may c.args.visitor.now) (g.V.Visitor.env c.args.visitor.now) c.args.state.now c.args.variables.now
    c.args.site c.args.parts.now c.args.range.now.start c.args.range.now.end c.loop-turn.turn inside c.loop-turn.invariant)

pub loop-turn-preserved : goal.loop-turn-preserved
loop-turn-preserved g c =
    let inside = rw c.extent-turn-end.ensures at c.loop-turn-test.true in
    turned (g.V.Visitor.accepts c.args.visitor.now) (g.V.Visitor.may c.args.visitor.now) (g.V.Visitor.env c.args.visitor.now) c.args.state.now c.args.variables.now
    c.args.site c.args.parts.now c.args.range.now.start c.args.range.now.end c.loop-turn.turn inside c.loop-turn.invariant
    (g.met.V.Visitor.stays c.args.visitor.now)
    (subst (λ (both : List ℤ). Through (g.V.Visitor.accepts c.args.visitor.now) c.loop-turn.state (turn_trace (g.V.Visitor.env c.args.visitor.now) both c.args.site c.args.parts.now) c.walk_turn.new.state)
    c.turn_variables-both.ensures c.in_ok-walk_turn.ensures)

pub returns-in_err-walk_turn : goal.returns-in_err-walk_turn
returns-in_err-walk_turn g c =
    let inside = rw c.extent-turn-end.ensures at c.loop-turn-test.true in
    stopped_walk c.walk_turn.new.state (err_from_is_err_and c.from_residual.result c.from_residual.ensures.1)
    (turn_stopped (g.V.Visitor.accepts c.args.visitor.now) (g.V.Visitor.may c.args.visitor.now) (g.V.Visitor.env c.args.visitor.now) c.args.state.now c.args.variables.now
    c.args.site c.args.parts.now c.args.range.now.start c.args.range.now.end c.loop-turn.turn inside c.loop-turn.invariant
    (rw c.turn_variables-both.ensures at c.in_err-walk_turn.ensures))

pub returns : goal.returns
returns g c =
    let past = rw c.extent-turn-end.ensures at c.loop-turn-test.false in
    all_turned (g.V.Visitor.accepts c.args.visitor.now) (g.V.Visitor.may c.args.visitor.now) (g.V.Visitor.env c.args.visitor.now) c.args.state.now c.args.variables.now
    c.args.site c.args.parts.now c.args.range.now.start c.args.range.now.end c.loop-turn.turn (omega (arith, past)) c.loop-turn.invariant
