use Rattle.std.proofs.Common.{arith, sym, ◌∙◌, ◌≡◌, true, false}
use Rattle.std.proofs.lemmas.Result.{err_from_is_err_and}
use Rattle.spf_term.proofs.WalkParts.{stopped_walk}
use Rattle.spf_store.specs.Trace.{holds}
use Rattle.spf_store.proofs.Branches.{at_body, cond_stopped, failed, fails, held, holds_so}
use Rattle.spf_store.proofs.OnTheWay.{walked_on}
use Rattle.spf_store.proofs.walk.walk_guard.Goals as goal

pub loop-cond-preserved : goal.loop-cond-preserved
loop-cond-preserved g c =
    let inside = rw c.as_slice-cond-items.ensures at c.loop-cond-test.true in
    let at = rw c.as_slice-cond-items.ensures at c.cond-item.is in
    let true_here : holds (g.V.Visitor.env c.args.visitor.now) c.args.variables.now c.cond-item.result ≡ true = sym c.in_ok-tested.ensures.holds ∙ holds_so c.in_ok-tested.tested.holds c.if-not-tested.false in
    held _ _ _ _ _ _ _ _ c.loop-cond.cond-index c.cond-item.result inside at c.loop-cond.invariant (g.met.V.Visitor.stays c.args.visitor.now)
    c.walk_cond.new.state c.in_ok-tested.tested.next c.in_ok-tested.ensures.walks true_here c.in_ok-tested.ensures.next

pub returns-then-not-tested-clause-walks : goal.returns-then-not-tested-clause-walks
returns-then-not-tested-clause-walks g c =
    let inside = rw c.as_slice-cond-items.ensures at c.loop-cond-test.true in
    let at = rw c.as_slice-cond-items.ensures at c.cond-item.is in
    let false_here : holds (g.V.Visitor.env c.args.visitor.now) c.args.variables.now c.cond-item.result ≡ false = sym c.in_ok-tested.ensures.holds ∙ fails c.in_ok-tested.tested.holds c.if-not-tested.true in
    failed _ _ _ _ _ _ _ _ c.loop-cond.cond-index c.cond-item.result inside at c.loop-cond.invariant (g.met.V.Visitor.stays c.args.visitor.now)
    c.walk_cond.new.state c.in_ok-tested.ensures.walks false_here

pub returns-in_err-tested-clause-walks : goal.returns-in_err-tested-clause-walks
returns-in_err-tested-clause-walks g c =
    let inside = rw c.as_slice-cond-items.ensures at c.loop-cond-test.true in
    let at = rw c.as_slice-cond-items.ensures at c.cond-item.is in
    stopped_walk c.walk_cond.new.state (err_from_is_err_and c.from_residual.result c.from_residual.ensures.1)
    (cond_stopped _ _ _ _ _ _ _ _ c.loop-cond.cond-index c.cond-item.result inside at c.loop-cond.invariant c.in_err-tested.ensures.walks)

pub returns-clause-walks : goal.returns-clause-walks
returns-clause-walks g c =
    let past = rw c.as_slice-cond-items.ensures at c.loop-cond-test.false in
    let walks = rw c.as_slice.ensures at c.walk_all.ensures.walks in
    walked_on _ _ _ c.walk_all.new.state c.walk_all.result (at_body _ _ _ _ _ _ _ _ c.loop-cond.cond-index (omega (arith, past)) c.loop-cond.invariant) walks
