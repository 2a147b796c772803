use Rattle.spf_rel.proofs.Unique.{same_simplification}
use Rattle.spf_rel.proofs.simplifying_laws.simplification_is_unique.Goals as goal

pub returns : goal.returns
returns c outer conjs made other h k = same_simplification c.terms_are_ordered.ensures.total outer conjs made other h k
