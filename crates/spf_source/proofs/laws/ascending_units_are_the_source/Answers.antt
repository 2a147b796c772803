use Rattle.std.proofs.Common.{ℕ, ℤ, ap}
use Rattle.spf_store.specs.BehaviorLaw.{source_law}
use Rattle.spf_source.proofs.Ascending.{ascending}
use Rattle.spf_source.proofs.laws.ascending_units_are_the_source.Goals as goal

pub returns-clause-frame : goal.returns-clause-frame
returns-clause-frame c = source_law

pub returns-clause-source : goal.returns-clause-source
returns-clause-source c env tree steps values e = ap (λ (made : ℕ → ℤ). made e) (ascending env tree steps values)
