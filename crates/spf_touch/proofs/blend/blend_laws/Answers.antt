use Rattle.spf_touch.specs.ActionLaw.{blend_fits}
use Rattle.spf_touch.proofs.Blends.{blend_assoc, blend_comm, blend-neutral}
use Rattle.spf_touch.proofs.blend.blend_laws.Goals as goal

pub returns-clause-associative : goal.returns-clause-associative
returns-clause-associative c = blend_assoc

pub returns-clause-commutative : goal.returns-clause-commutative
returns-clause-commutative c = blend_comm

pub returns-clause-neutral : goal.returns-clause-neutral
returns-clause-neutral c = blend-neutral

pub returns-clause-closed : goal.returns-clause-closed
returns-clause-closed c = blend_fits
