use Rattle.spf_term.proofs.Solving.{normal_by, normal_whole}
use Rattle.spf_term.proofs.equations.substitution_keeps_the_normal_form.Goals as goal

pub returns-clause-by : goal.returns-clause-by
returns-clause-by c var by term = normal_by var by term

pub returns-clause-whole : goal.returns-clause-whole
returns-clause-whole c var by term = normal_whole var by term
