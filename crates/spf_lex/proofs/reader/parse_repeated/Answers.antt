use Rattle.std.proofs.Common.{rules, arith, sym}
use Rattle.std.proofs.lemmas.Grind.{common_steps}
use Rattle.spf_lex.proofs.Repeating.{at_first, goes_on}
use Rattle.spf_lex.proofs.reader.parse_repeated.Goals as goal

pub loop-turn-init : goal.loop-turn-init
loop-turn-init g c =
    let e = at_first g.P.Part.begins g.P.Part.reading c.args.tokens.now in
    first_of (search rules, grind (arith, common_steps))

pub loop-turn-preserved : goal.loop-turn-preserved
loop-turn-preserved g c =
    rw c.in_ok-push.ensures.ok
    (goes_on g.P.Part.begins g.P.Part.reading _ c.loop-turn.parts _ c.loop-turn._turn c.loop-turn.tokens c.loop-turn.invariant c.loop-turn-test.true (sym c.if-not-begins.ensures) _ c.parse.new.tokens c.in_ok-part.ensures)
