use Rattle.spf_term.proofs.Small.{difference_count, difference_size, equation_count, equation_size}
use Rattle.spf_term.proofs.measures.equations_are_bounded.Goals as goal

pub returns-clause-difference_count : goal.returns-clause-difference_count
returns-clause-difference_count c var term = difference_count var term

pub returns-clause-difference_size : goal.returns-clause-difference_size
returns-clause-difference_size c var term = difference_size var term

pub returns-clause-count : goal.returns-clause-count
returns-clause-count c var term = equation_count var term

pub returns-clause-size : goal.returns-clause-size
returns-clause-size c var term = equation_size var term
