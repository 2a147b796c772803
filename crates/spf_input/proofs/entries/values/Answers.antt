use Rattle.std.proofs.Common.{sym, rules, arith}
use Rattle.std.proofs.lemmas.Grind.{common_steps}
use Rattle.spf_lex.specs.Production.{begins}
use Rattle.spf_lex.proofs.Repeating.{at_first, goes_on}
use Rattle.spf_input.specs.Productions as p
use Rattle.spf_input.proofs.entries.values.Goals as goal

pub loop-turn-init : goal.loop-turn-init
loop-turn-init c =
    let e = at_first (begins p.given) p.given.read c.args.tokens.now in
    first_of (search rules, grind (arith, common_steps))

pub loop-turn-preserved : goal.loop-turn-preserved
loop-turn-preserved c =
    (_, goes_on (begins p.given) p.given.read _ c.loop-turn.invariant.0 _ c.loop-turn._turn c.loop-turn.tokens c.loop-turn.invariant.1 c.loop-turn-test.true (sym c.if-not-begins_given.ensures) _ c.given.new.tokens c.in_ok-given.ensures)
