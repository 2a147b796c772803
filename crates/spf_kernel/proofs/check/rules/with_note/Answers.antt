use Rattle.spf_kernel.proofs.Common.{◌∙◌, subst, texts, IsFirst}
use Rattle.spf_kernel.proofs.check.rules.with_note.Goals as goal
use Rattle.spf_kernel.proofs.FirstBreach.{least_of, still_first, first_one, first_of_two}

pub returns-in_default-None : goal.returns-in_default-None
returns-in_default-None c = λ notes e first.
    let all = texts c.args.tokens.now in
    let least = least_of all notes c.args.note.now c.args.before.now e _ _ _ c.or-rule.ensures c.name_rule.ensures c.limit_rule.ensures in
    still_first all notes c.args.note.now c.args.best first (least ∙ c.in_default-None.is-1)

pub returns-in-None-Some : goal.returns-in-None-Some
returns-in-None-Some c = λ notes e first.
    let all = texts c.args.tokens.now in
    let least = least_of all notes c.args.note.now c.args.before.now e _ _ _ c.or-rule.ensures c.name_rule.ensures c.limit_rule.ensures in
    first_one all notes c.args.note.now (subst (IsFirst all notes) c.in-None-Some.is-0 first) c.in-None-Some.rule (least ∙ c.in-None-Some.is-1)

pub returns-in-Some-Some : goal.returns-in-Some-Some
returns-in-Some-Some c = λ notes e first.
    let all = texts c.args.tokens.now in
    let least = least_of all notes c.args.note.now c.args.before.now e _ _ _ c.or-rule.ensures c.name_rule.ensures c.limit_rule.ensures in
    first_of_two all notes c.args.note.now c.in-Some-Some.best (subst (IsFirst all notes) c.in-Some-Some.is-0 first) c.in-Some-Some.rule (least ∙ c.in-Some-Some.is-1)
    c.lesser.result (c.lesser.ensures.either, c.lesser.ensures.leads.0, c.lesser.ensures.leads.1)
