use Rattle.std.proofs.Common.{ℤ, ◌∷◌, [], w64, rules, subst, ◌∙◌}
use Rattle.std.proofs.lemmas.Int.{to_z-of_z}
use Rattle.std.proofs.lemmas.Result.{err_from_is_err_and}
use Rattle.spf_term.specs.Walk.{Through, StopsAt}
use Rattle.spf_term.proofs.WalkParts.{stop_behind, stop_in_front, stopped_walk, through_both}
use Rattle.spf_store.specs.Event.{Access}
use Rattle.spf_access.specs.Progress.{Accepts, Refuses}
use Rattle.spf_access.proofs.walks.walk_access.Goals as goal

pub returns-in_err-walked-clause-walks : goal.returns-in_err-walked-clause-walks
returns-in_err-walked-clause-walks c =
    stopped_walk c.args.progress.now (err_from_is_err_and c.from_residual.result c.from_residual.ensures.1) (stop_in_front _ _ _ _ _ _ (c.in_err-walked.ensures.walks c.args.progress.now))

pub returns-in_err-access-clause-walks : goal.returns-in_err-access-clause-walks
returns-in_err-access-clause-walks c =
    let same = to_z-of_z w64 c.in_ok-walked.walked.value (search rules) ∙ c.in_ok-walked.ensures.value in
    let exit = c.from_residual-in_err-access in
    stopped_walk c.access.new.self (err_from_is_err_and exit.result exit.ensures.1) (stop_behind _ _ _ _ _ _ _ (c.in_ok-walked.ensures.walks c.args.progress.now)
    (subst (λ (z : ℤ). StopsAt (Accepts c.args.env.now) (Refuses c.args.env.now) c.args.progress.now (Access c.args.site c.args.class c.args.array z ∷ []) c.in_err-access.field-0.0) same
    (c.in_err-access.ensures c.args.env.now)))

pub returns-clause-walks : goal.returns-clause-walks
returns-clause-walks c =
    let same = to_z-of_z w64 c.in_ok-walked.walked.value (search rules) ∙ c.in_ok-walked.ensures.value in
    through_both _ _ _ _ _ _ (c.in_ok-walked.ensures.walks c.args.progress.now)
    (subst (λ (z : ℤ). Through (Accepts c.args.env.now) c.args.progress.now (Access c.args.site c.args.class c.args.array z ∷ []) c.access.new.self) same (c.in_ok-access.ensures c.args.env.now))
