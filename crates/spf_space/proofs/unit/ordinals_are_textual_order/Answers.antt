use Rattle.spf_space.specs.Places.{ordinal_of}
use Rattle.spf_space.proofs.Textual.{follows, stands, stood}
use Rattle.spf_space.proofs.unit.ordinals_are_textual_order.Goals as goal

pub returns-clause-units : goal.returns-clause-units
returns-clause-units c steps loops u = (λ is. (ordinal_of loops u, stands steps loops u is), λ at. (stood steps loops at.0 u at.1).0)

pub returns-clause-order : goal.returns-clause-order
returns-clause-order c steps loops u v m n = follows steps loops u v m n
