use Rattle.std.proofs.Common.{ap, ℕ, ℤ}
use Rattle.spf_touch.proofs.RenamedActions.{accesses_there, actions_alike, performed_there, touches_there}
use Rattle.spf_touch.proofs.renaming.renamed_actions_do_the_same.Goals as goal

pub returns-clause-accesses : goal.returns-clause-accesses
returns-clause-accesses c = accesses_there

pub returns-clause-touches : goal.returns-clause-touches
returns-clause-touches c = touches_there

pub returns-clause-performed : goal.returns-clause-performed
returns-clause-performed c renaming actions values e = ap (λ (seen : ℕ → ℤ). seen e) (performed_there renaming actions values)

pub returns-clause-units : goal.returns-clause-units
returns-clause-units c = actions_alike
