use Rattle.spf_term.proofs.NormalValues.{normal_value}
use Rattle.spf_term.proofs.normals.normal_form_keeps_the_value.Goals as goal

pub returns : goal.returns
returns c env variables term = normal_value env variables term
