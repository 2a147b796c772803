use Rattle.spf_kernel.proofs.Common.{arith, sym, begins, from_parts, goes_on, atom, next_step}
use Rattle.spf_kernel.proofs.read.ix.+ix.Goals as goal
use Rattle.spf_kernel.proofs.Depths.{atom_deep}

pub atom-returns-then-depth-gt0 : goal.atom-returns-then-depth-gt0
atom-returns-then-depth-gt0 t c = rw (atom_deep c.args.depth c.args.tokens.now (omega (arith, c.if-depth-gt0.true))) c.subscripted.ensures

pub next_steps-loop-turn-init : goal.next_steps-loop-turn-init
next_steps-loop-turn-init t c =
    let next = next_step (atom c.args.depth) in
    rw c.left-turn-end.ensures (from_parts (begins next) next.read c.args.steps c.args.tokens.now)

pub next_steps-loop-turn-preserved : goal.next_steps-loop-turn-preserved
next_steps-loop-turn-preserved t c =
    let next = next_step (atom c.args.depth) in
    rw c.in_ok-push.ensures.ok
    (goes_on (begins next) next.read _ c.loop-turn.steps _ c.loop-turn._turn c.loop-turn.tokens c.loop-turn.invariant c.loop-turn-test.true (sym (c.if-not-begins_sign.ensures.monomial c.args.depth)) _ c.next_step.new.tokens c.in_ok-step.ensures)
