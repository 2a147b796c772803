use Rattle.std.proofs.Common.{sym, ◌∙◌, subst}
use Rattle.spf_rel.specs.Elimination.{AreReady}
use Rattle.spf_rel.specs.declared.relation.Conj.{Conj}
use Rattle.spf_rel.proofs.Rounds.{NormalLaws, equal_ready, least_ready, solved_as, told_second}
use Rattle.spf_rel.proofs.solving.solved.Goals as goal

pub all_rounds-requires-clause-equal : goal.all_rounds-requires-clause-equal
all_rounds-requires-clause-equal c =
    let laws : NormalLaws = record { normal = c.normal_form_is_normal.ensures; oriented = c.oriented_terms_are_normal.ensures } in
    subst (λ (conj : Conj). AreReady conj.equal) (sym c.in-Ok.ensures.0) (equal_ready laws c.args.conj.now c.in-Ok.ensures.1)

pub all_rounds-requires-clause-least : goal.all_rounds-requires-clause-least
all_rounds-requires-clause-least c =
    let laws : NormalLaws = record { normal = c.normal_form_is_normal.ensures; oriented = c.oriented_terms_are_normal.ensures } in
    subst (λ (conj : Conj). AreReady conj.least) (sym c.in-Ok.ensures.0) (least_ready laws c.args.conj.now c.in-Ok.ensures.1)

pub returns-in-Ok : goal.returns-in-Ok
returns-in-Ok c = solved_as c.args.outer c.args.conj.now c.in-Ok.made c.all_rounds.result (sym c.conj_excess.ensures ∙ c.in_default.is) c.in-Ok.ensures.0 c.all_rounds.ensures

pub returns-in-Err : goal.returns-in-Err
returns-in-Err c = told_second c.args.outer c.args.conj.now c.in-Err.fault (sym c.conj_excess.ensures ∙ c.in_default.is) c.in-Err.ensures
