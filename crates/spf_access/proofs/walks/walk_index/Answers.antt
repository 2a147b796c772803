use Rattle.std.proofs.Common.{◌≡◌, ℕ, ℤ, pos, None, Some, w64, rules, subst, ◌∙◌}
use Rattle.std.proofs.lemmas.Int.{to_z-of_z}
use Rattle.std.proofs.lemmas.Result.{err_from_is_err_and}
use Rattle.spf_term.proofs.WalkParts.{stop_behind, stop_in_front, stopped_walk, through_both}
use Rattle.spf_term.specs.Value.{value}
use Rattle.spf_store.specs.FirstFault.{unless_between}
use Rattle.spf_access.specs.Progress.{range_stop}
use Rattle.spf_access.proofs.Events.{read_accepted, read_refused}
use Rattle.spf_access.proofs.walks.walk_index.Goals as goal

pub returns-in_err-walked-clause-walks : goal.returns-in_err-walked-clause-walks
returns-in_err-walked-clause-walks c progress =
    stopped_walk progress (err_from_is_err_and c.from_residual.result c.from_residual.ensures.1) (stop_in_front _ _ _ _ _ _ (c.in_err-walked.ensures.walks progress))

pub returns-in_err-place_in-clause-walks : goal.returns-in_err-place_in-clause-walks
returns-in_err-place_in-clause-walks c progress =
    let same = to_z-of_z w64 c.in_ok-walked.walked.value (search rules) ∙ c.in_ok-walked.ensures.value in
    let stop = c.in_err-place_in.field-0.0 in
    let at = subst (λ (n : ℕ). range_stop (unless_between (pos 0) (pos n) c.args.site (value c.args.env.now c.args.variables.now c.args.sub.now)) ≡ Some stop) c.table_length.ensures
    (subst (λ (z : ℤ). range_stop (unless_between (pos 0) (pos c.table_length.result) c.args.site z) ≡ Some stop) same c.in_err-place_in.ensures) in
    let exit = c.from_residual-in_err-place_in in
    stopped_walk progress (err_from_is_err_and exit.result exit.ensures.1) (stop_behind _ _ _ _ _ _ _ (c.in_ok-walked.ensures.walks progress)
    (read_refused c.args.env.now progress (record { site = c.args.site; table = c.args.array; place = value c.args.env.now c.args.variables.now c.args.sub.now }) stop at))

pub returns-clause-walks : goal.returns-clause-walks
returns-clause-walks c progress =
    let same = to_z-of_z w64 c.in_ok-walked.walked.value (search rules) ∙ c.in_ok-walked.ensures.value in
    let at = subst (λ (n : ℕ). unless_between (pos 0) (pos n) c.args.site (value c.args.env.now c.args.variables.now c.args.sub.now) ≡ None) c.table_length.ensures
    (subst (λ (z : ℤ). unless_between (pos 0) (pos c.table_length.result) c.args.site z ≡ None) same c.in_ok-place_in.ensures) in
    through_both _ _ _ _ _ _ (c.in_ok-walked.ensures.walks progress)
    (read_accepted c.args.env.now progress (record { site = c.args.site; table = c.args.array; place = value c.args.env.now c.args.variables.now c.args.sub.now }) at)
