use Rattle.spf_kernel.proofs.Common.{arith, sym, same_kind, begins, further, sees, Star, from_parts, goes_on, fact, next_summand}
use Rattle.spf_kernel.proofs.read.value.+value.Goals as goal
use Rattle.spf_kernel.proofs.Depths.{fact_nested, fact_numbered}

pub fact-returns-then-begins_number : goal.fact-returns-then-begins_number
fact-returns-then-begins_number t c = rw (fact_numbered c.args.depth c.args.tokens.now (sym c.if-begins_number.ensures)) c.numbered.ensures

pub fact-returns-else-depth-eq0 : goal.fact-returns-else-depth-eq0
fact-returns-else-depth-eq0 t c = rw (fact_nested c.args.depth c.args.tokens.now (sym c.if-begins_number.ensures) (omega (arith, c.if-depth-eq0.false))) c.nested.ensures

pub next_facts-loop-turn-init : goal.next_facts-loop-turn-init
next_facts-loop-turn-init t c =
    rw c.left-turn-end.ensures (from_parts (sees same_kind Star) (further same_kind Star (fact c.args.depth).read) c.args.facts c.args.tokens.now)

pub next_facts-loop-turn-preserved : goal.next_facts-loop-turn-preserved
next_facts-loop-turn-preserved t c =
    rw c.in_ok-push.ensures.ok
    (goes_on (sees same_kind Star) (further same_kind Star (fact c.args.depth).read) _ c.loop-turn.facts _ c.loop-turn._turn c.loop-turn.tokens c.loop-turn.invariant c.loop-turn-test.true (sym c.if-not-sees.ensures) _ c.next_fact.new.tokens c.in_ok-next.ensures)

pub next_summands-loop-turn-init : goal.next_summands-loop-turn-init
next_summands-loop-turn-init t c =
    let next = next_summand (fact c.args.depth) in
    rw c.left-turn-end.ensures (from_parts (begins next) next.read c.args.summands c.args.tokens.now)

pub next_summands-loop-turn-preserved : goal.next_summands-loop-turn-preserved
next_summands-loop-turn-preserved t c =
    let next = next_summand (fact c.args.depth) in
    rw c.in_ok-push.ensures.ok
    (goes_on (begins next) next.read _ c.loop-turn.summands _ c.loop-turn._turn c.loop-turn.tokens c.loop-turn.invariant c.loop-turn-test.true (sym (c.if-not-begins_sign.ensures.product c.args.depth)) _ c.next_summand.new.tokens c.in_ok-next.ensures)
