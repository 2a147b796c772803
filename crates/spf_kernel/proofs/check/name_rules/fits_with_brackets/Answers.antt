use Rattle.spf_kernel.proofs.Common.{refl, ◌∙◌, ◌≡◌, is_table, declares}
use Rattle.spf_kernel.proofs.Declared.{or_false, known_from}
use Rattle.spf_kernel.proofs.check.name_rules.fits_with_brackets.Goals as goal

pub returns-in-Body : goal.returns-in-Body
returns-in-Body c = λ facts variables e. rw c.in-Body.is (c.contains.ensures ∙ (known_from facts c.args.name.now c.args.before.now e).tables ∙ or_false (declares is_table facts c.args.name.now))

pub returns-then-contains : goal.returns-then-contains
returns-then-contains c = λ facts variables e.
    let table : c.contains-in-Factor.result ≡ declares is_table facts c.args.name.now = c.contains-in-Factor.ensures ∙ (known_from facts c.args.name.now c.args.before.now e).tables in
    rw (c.in-Factor.is, ← table, c.if-contains.true) refl

pub returns-else-contains : goal.returns-else-contains
returns-else-contains c = λ facts variables e.
    let known = known_from facts c.args.name.now c.args.before.now e in
    let table : c.contains-in-Factor.result ≡ declares is_table facts c.args.name.now = c.contains-in-Factor.ensures ∙ known.tables in
    rw (c.in-Factor.is, ← table, c.if-contains.false) (c.contains-else-contains.ensures ∙ known.data_arrays)

pub returns-in-Target : goal.returns-in-Target
returns-in-Target c = λ facts variables e. rw c.in-Target.is (c.contains-in-Target.ensures ∙ (known_from facts c.args.name.now c.args.before.now e).data_arrays)
