use Rattle.spf_kernel.proofs.Common.{sym, subst, texts, Ok, Err, Checked, IsFirst, facts_of}
use Rattle.spf_kernel.specs.check.State.{State, IsBehind}
use Rattle.spf_kernel.proofs.check.state.Check.finish.Goals as goal
use Rattle.spf_kernel.proofs.Unbroken.{are_names, are_short, sound}

pub invariant_of-result : goal.invariant_of-result
invariant_of-result c =
    let all = texts c.self.inside.tokens.now in
    let held = c.self.invariant in
    are_short (facts_of all held.0) (sound all held.0 (subst (IsFirst all held.0) c.in-None.is held.1.best)) c.self.inside.before held.1.before

pub returns-in-Some : goal.returns-in-Some
returns-in-Some c = λ notes behind.
    let is = subst (IsBehind notes) (sym c.self.view_is) behind in
    subst (λ (state : State). Checked state.texts notes (Err c.in-Some.breach)) c.self.view_is (subst (IsFirst (texts c.self.inside.tokens.now) notes) c.in-Some.is is.best)

pub returns-in-None : goal.returns-in-None
returns-in-None c = λ notes behind.
    let all = texts c.self.inside.tokens.now in
    let is = subst (IsBehind notes) (sym c.self.view_is) behind in
    let unbroken = subst (IsFirst all notes) c.in-None.is is.best in
    subst (λ (state : State). Checked state.texts notes (Ok (record { params = c.self.inside.before.params; tables = c.self.inside.before.tables; data_arrays = c.self.inside.before.data_arrays }))) c.self.view_is
    (unbroken, are_names (facts_of all notes) (sound all notes unbroken) c.self.inside.before is.before)
