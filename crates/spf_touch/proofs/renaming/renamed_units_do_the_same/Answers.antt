use Rattle.std.proofs.Common.{ap, ℕ, ℤ, refl}
use Rattle.spf_touch.specs.Renaming.{renamed_units}
use Rattle.spf_touch.specs.RenamingLaw.{renamed_law}
use Rattle.spf_touch.proofs.Renamed.{conflict_back, conflict_there, legal_there, renamed_values}
use Rattle.spf_touch.proofs.renaming.renamed_units_do_the_same.Goals as goal

pub returns-clause-frame : goal.returns-clause-frame
returns-clause-frame c = renamed_law

pub returns-clause-conflicts : goal.returns-clause-conflicts
returns-clause-conflicts c renaming units u v = (conflict_back renaming (units.touches u) (units.touches v), conflict_there renaming (units.touches u) (units.touches v))

pub returns-clause-orders : goal.returns-clause-orders
returns-clause-orders c renaming units us = (
  legal_there units (renamed_units renaming units) refl (λ u v first second. conflict_there renaming (units.touches u) (units.touches v)) us,
  legal_there (renamed_units renaming units) units refl (λ u v first second. conflict_back renaming (units.touches u) (units.touches v)) us,
)

pub returns-clause-values : goal.returns-clause-values
returns-clause-values c renaming units us values e = ap (λ (seen : ℕ → ℤ). seen e) (renamed_values renaming units us values)
