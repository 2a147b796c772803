use Rattle.std.proofs.Common.{inl, inr, refl, subst, sym, ◌∙◌}
use Rattle.spf_calc.proofs.Kept.{kept}
use Rattle.spf_calc.specs.Statements.{Runs}
use Rattle.spf_calc.proofs.steps.step.Goals as goal

pub run-requires-clause-fit : goal.run-requires-clause-fit
run-requires-clause-fit c = (kept c.args.state.bindings c.args.number c.args.statement.now (rw c.bindings.ensures.bindings at (sym c.in_ok-broken.ensures ∙ c.in-None.is))).fit

pub run-requires-clause-good : goal.run-requires-clause-good
run-requires-clause-good c = (kept c.args.state.bindings c.args.number c.args.statement.now (rw c.bindings.ensures.bindings at (sym c.in_ok-broken.ensures ∙ c.in-None.is))).good

pub returns-in-Some-clause-step : goal.returns-in-Some-clause-step
returns-in-Some-clause-step c = (refl, inl (rw c.bindings.ensures.bindings at (sym c.in_ok-broken.ensures ∙ c.in-Some.is)))

pub returns-in-Some-2-clause-step : goal.returns-in-Some-2-clause-step
returns-in-Some-2-clause-step c =
    let unbroken = rw c.bindings.ensures.bindings at (sym c.in_ok-broken.ensures ∙ c.in-None.is) in
    (unbroken, subst (Runs c.args.names.now c.args.state c.args.statement.now) c.in-Some-2.is c.in_ok-next-in-None.ensures)

pub returns-in-None-2-clause-step : goal.returns-in-None-2-clause-step
returns-in-None-2-clause-step c =
    let unbroken = rw c.bindings.ensures.bindings at (sym c.in_ok-broken.ensures ∙ c.in-None.is) in
    (refl, inr (refl, unbroken, subst (Runs c.args.names.now c.args.state c.args.statement.now) c.in-None-2.is c.in_ok-next-in-None.ensures))
