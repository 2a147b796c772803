use Rattle.spf_term.proofs.Small.{substituted_count, substituted_factor, substituted_size}
use Rattle.spf_term.proofs.measures.substitutions_are_bounded.Goals as goal

pub returns-clause-count : goal.returns-clause-count
returns-clause-count c var by term = substituted_count var by term

pub returns-clause-size : goal.returns-clause-size
returns-clause-size c var by term = substituted_size var by term

pub returns-clause-factor : goal.returns-clause-factor
returns-clause-factor c var by term = substituted_factor var by term
