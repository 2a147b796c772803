use Rattle.spf_kernel.proofs.Common.{[], ◌∷◌, ◌++◌, ◌+◌, refl, subst, arith, length-map, texts, fact_of, facts_of, note}
use Rattle.spf_kernel.specs.check.State.{State, Takes}
use Rattle.spf_kernel.proofs.check.state.Check.take.Goals as goal
use Rattle.spf_kernel.proofs.Adding.{counts_short}
use Rattle.spf_kernel.proofs.Taking.{one_more}

pub add-requires : goal.add-requires
add-requires c =
    let all = texts c.self.inside.tokens.now in
    let held = c.self.invariant in
    counts_short _ (facts_of all held.0) c.self.inside.before held.1.before (omega (arith, length-map held.0 (fact_of all), held.1.few))

pub invariant_of-self : goal.invariant_of-self
unfolding Takes
invariant_of-self c =
    let s = c.self.inside in
    let taken = note c.args.token c.args.says c.args.scope in
    let old : State = record { texts = texts s.tokens.now; before = s.before; best = s.best; taken = s.taken } in
    let new : State = record { texts = texts s.tokens.now; before = c.add.new.self; best = c.with_note-best.result; taken = s.taken + 1 } in
    let goes = one_more old new taken refl refl (omega (arith, c.if-self-ge-MOST_NOTES.false)) c.in-Ok.ensures.added c.with_note-best.ensures in
    (c.self.invariant.0 ++ taken ∷ [], goes.1 c.self.invariant.0 c.self.invariant.1)

pub returns-in-Ok : goal.returns-in-Ok
returns-in-Ok c =
    let s = c.self.inside in
    let taken = note c.args.token c.args.says c.args.scope in
    let old : State = record { texts = texts s.tokens.now; before = s.before; best = s.best; taken = s.taken } in
    let new : State = record { texts = texts s.tokens.now; before = c.add.new.self; best = c.with_note-best.result; taken = s.taken + 1 } in
    subst (λ (state : State). Takes state (taken ∷ []) new) c.self.view_is
    (one_more old new taken refl refl (omega (arith, c.if-self-ge-MOST_NOTES.false)) c.in-Ok.ensures.added c.with_note-best.ensures)
