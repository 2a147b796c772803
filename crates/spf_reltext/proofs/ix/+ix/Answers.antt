use Rattle.std.proofs.Common.{arith, sym}
use Rattle.spf_lex.proofs.Repeating.{from_parts, goes_on}
use Rattle.spf_lex.specs.Production.{begins}
use Rattle.spf_reltext.proofs.LiteralTexts.{atom_deep}
use Rattle.spf_reltext.proofs.ix.+ix.Goals as goal
use Rattle.spf_reltext.specs.Productions.{atom, next_mono}

pub atom-returns-then-depth-gt0 : goal.atom-returns-then-depth-gt0
atom-returns-then-depth-gt0 t c = rw (atom_deep c.args.depth c.args.tokens.now (omega (arith, c.if-depth-gt0.true))) c.subscripted.ensures

pub next_monos-loop-turn-init : goal.next_monos-loop-turn-init
next_monos-loop-turn-init t c =
    let next = next_mono (atom c.args.depth) in
    rw c.left-turn-end.ensures (from_parts (begins next) next.read c.args.monos c.args.tokens.now)

pub next_monos-loop-turn-preserved : goal.next_monos-loop-turn-preserved
next_monos-loop-turn-preserved t c =
    let next = next_mono (atom c.args.depth) in
    rw c.in_ok-push.ensures.ok
    (goes_on (begins next) next.read _ c.loop-turn.monos _ c.loop-turn._turn c.loop-turn.tokens c.loop-turn.invariant c.loop-turn-test.true (sym (c.if-not-begins_sign.ensures c.args.depth)) _ c.next_mono.new.tokens c.in_ok-next.ensures)
