use Rattle.std.proofs.Common.{sym}
use Rattle.spf_lex.specs.Reader.{further, sees}
use Rattle.spf_lex.proofs.Repeating.{from_parts, goes_on}
use Rattle.spf_lex.proofs.reader.further_parts.Goals as goal

pub loop-turn-init : goal.loop-turn-init
loop-turn-init g c =
    rw c.left-turn-end.ensures (from_parts (sees g.K.TokenKind.same c.args.kind) (further g.K.TokenKind.same c.args.kind g.P.Part.reading) c.args.parts c.args.tokens.now)

pub loop-turn-preserved : goal.loop-turn-preserved
loop-turn-preserved g c =
    rw c.in_ok-push.ensures.ok
    (goes_on (sees g.K.TokenKind.same c.args.kind) (further g.K.TokenKind.same c.args.kind g.P.Part.reading) _ c.loop-turn.parts _ c.loop-turn._turn c.loop-turn.tokens c.loop-turn.invariant
    c.loop-turn-test.true (sym c.if-not-sees.ensures) _ c.further.new.tokens c.in_ok-part.ensures)
