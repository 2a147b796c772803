use Rattle.std.proofs.lemmas.Result.{err_from_is_err_and}
use Rattle.spf_term.proofs.WalkParts.{stop_behind, stop_in_front, stopped_walk, through_both}
use Rattle.spf_access.proofs.Events.{store_accepted}
use Rattle.spf_access.proofs.walks.WalkVisitorProgress.assign.Goals as goal

pub returns-in_err-walk_access-clause-walks : goal.returns-in_err-walk_access-clause-walks
returns-in_err-walk_access-clause-walks c =
    let exit = c.from_residual-in_err-walk_access in
    let first = rw c.applications.ensures at c.in_ok-next.ensures.walks in
    let second = rw c.target_class-class.ensures at c.in_err-walk_access.ensures.walks in
    stopped_walk c.walk_access.new.progress (err_from_is_err_and exit.result exit.ensures.1) (stop_behind _ _ _ _ _ _ _ first (stop_in_front _ _ _ _ _ _ second))

pub returns-clause-walks : goal.returns-clause-walks
returns-clause-walks c =
    let first = rw c.applications.ensures at c.in_ok-next.ensures.walks in
    let second = rw c.target_class-class.ensures at c.in_ok-walk_access.ensures.walks in
    through_both _ _ _ _ _ _ first (through_both _ _ _ _ _ _ second (store_accepted c.args.self.now.env.now c.walk_access.new.progress c.args.assign.now c.args.variables.now))
