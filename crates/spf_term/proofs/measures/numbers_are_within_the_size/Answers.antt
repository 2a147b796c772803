use Rattle.spf_term.proofs.Limits.{bounded_factor, bounded_size, none_outside}
use Rattle.spf_term.proofs.Small.{counted}
use Rattle.spf_term.proofs.measures.numbers_are_within_the_size.Goals as goal

pub returns-clause-count : goal.returns-clause-count
returns-clause-count c term = counted term

pub returns-clause-none : goal.returns-clause-none
returns-clause-none c term less = none_outside term less

pub returns-clause-size : goal.returns-clause-size
returns-clause-size c term bounded = bounded_size term bounded

pub returns-clause-factor : goal.returns-clause-factor
returns-clause-factor c term bounded = bounded_factor term bounded
