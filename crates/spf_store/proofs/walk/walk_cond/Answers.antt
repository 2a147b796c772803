use Rattle.std.proofs.lemmas.Result.{err_from_is_err_and}
use Rattle.spf_term.proofs.WalkParts.{stop_behind, stopped_walk, through_both}
use Rattle.spf_store.proofs.OnTheWay.{may_second}
use Rattle.spf_store.proofs.walk.walk_cond.Goals as goal

pub term-requires-2-clause-may : goal.term-requires-2-clause-may
term-requires-2-clause-may g c =
    rw c.in_ok-left.ensures.next (may_second _ _ (g.met.V.Visitor.stays c.args.visitor.now) _ _ c.requires.may c.in_ok-left.ensures.walks)

pub returns-in_err-right-clause-walks : goal.returns-in_err-right-clause-walks
returns-in_err-right-clause-walks g c =
    let exit = c.from_residual-in_err-right in
    let second = rw c.in_ok-left.ensures.next at c.in_err-right.ensures.walks in
    stopped_walk c.term-2.new.state (err_from_is_err_and exit.result exit.ensures.1) (stop_behind _ _ _ _ _ _ _ c.in_ok-left.ensures.walks second)

pub returns-clause-walks : goal.returns-clause-walks
returns-clause-walks g c =
    let second = rw c.in_ok-left.ensures.next at c.in_ok-right.ensures.walks in
    through_both _ _ _ _ _ _ c.in_ok-left.ensures.walks second
