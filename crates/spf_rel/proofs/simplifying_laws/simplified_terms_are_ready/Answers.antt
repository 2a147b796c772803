use Rattle.spf_rel.proofs.Readiness.{simplification_ready}
use Rattle.spf_rel.proofs.simplifying_laws.simplified_terms_are_ready.Goals as goal

pub returns : goal.returns
returns c outer conjs made h = simplification_ready (record { normal = c.normal_form_is_normal.ensures; oriented = c.oriented_terms_are_normal.ensures }) outer conjs made h
