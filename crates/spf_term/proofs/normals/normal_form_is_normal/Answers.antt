use Rattle.spf_term.proofs.NormalForms.{normal_is}
use Rattle.spf_term.proofs.normals.normal_form_is_normal.Goals as goal

pub returns : goal.returns
returns c term = normal_is term
