use Rattle.spf_term.proofs.Substituted.{substituted_value}
use Rattle.spf_term.proofs.substitution.substitution_keeps_the_value.Goals as goal

pub returns : goal.returns
returns c env before after var by term replaced = substituted_value var by env before after replaced term
