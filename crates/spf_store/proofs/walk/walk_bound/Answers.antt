use Rattle.std.proofs.Common.{ℤ, ◌∷◌, [], w64, arith, rules, subst, sym, ◌∙◌}
use Rattle.std.proofs.lemmas.Int.{to_z-of_z}
use Rattle.std.proofs.lemmas.Result.{err_from_is_err_and}
use Rattle.spf_term.specs.Value.{value}
use Rattle.spf_term.specs.Walk.{Through, StopsAt}
use Rattle.spf_term.proofs.WalkParts.{stop_behind, stop_in_front, stopped_walk, through_both}
use Rattle.spf_store.specs.Event.{Bound}
use Rattle.spf_store.proofs.OnTheWay.{may_second}
use Rattle.spf_store.proofs.walk.walk_bound.Goals as goal

pub bound-requires : goal.bound-requires
bound-requires g c =
    let same = to_z-of_z w64 c.in_ok-walked.walked.value (search rules) ∙ c.in_ok-walked.ensures.value in
    let second = may_second _ _ (g.met.V.Visitor.stays c.args.visitor.now) _ _ c.requires.may c.in_ok-walked.ensures.walks in
    subst (λ (z : ℤ). g.V.Visitor.may c.args.visitor.now c.term.new.state (Bound c.args.site z)) (sym same) (second 0 (Bound c.args.site (value (g.V.Visitor.env c.args.visitor.now) c.args.variables.now c.args.bound.now)) (omega arith))

pub returns-in_err-walked-clause-walks : goal.returns-in_err-walked-clause-walks
returns-in_err-walked-clause-walks g c =
    stopped_walk c.term.new.state (err_from_is_err_and c.from_residual.result c.from_residual.ensures.1) (stop_in_front _ _ _ _ _ _ c.in_err-walked.ensures.walks)

pub returns-in_err-bound-clause-walks : goal.returns-in_err-bound-clause-walks
returns-in_err-bound-clause-walks g c =
    let same = to_z-of_z w64 c.in_ok-walked.walked.value (search rules) ∙ c.in_ok-walked.ensures.value in
    let exit = c.from_residual-in_err-bound in
    stopped_walk c.bound.new.state (err_from_is_err_and exit.result exit.ensures.1) (stop_behind _ _ _ _ _ _ _ c.in_ok-walked.ensures.walks
    (subst (λ (z : ℤ). StopsAt (g.V.Visitor.accepts c.args.visitor.now) (g.V.Visitor.refuses c.args.visitor.now) c.term.new.state (Bound c.args.site z ∷ []) c.in_err-bound.field-0.0) same
    c.in_err-bound.ensures.walks))

pub returns-clause-walks : goal.returns-clause-walks
returns-clause-walks g c =
    let same = to_z-of_z w64 c.in_ok-walked.walked.value (search rules) ∙ c.in_ok-walked.ensures.value in
    through_both _ _ _ _ _ _ c.in_ok-walked.ensures.walks
    (subst (λ (z : ℤ). Through (g.V.Visitor.accepts c.args.visitor.now) c.term.new.state (Bound c.args.site z ∷ []) c.bound.new.state) same c.in_ok-bound.ensures.walks)
