use Rattle.spf_term.specs.Measure.{by_factor, by_size}
use Rattle.spf_term.proofs.Measured.{normal_less}
use Rattle.spf_term.proofs.Small.{factor_sums, normal_count, size_sums}
use Rattle.spf_term.proofs.measures.normal_forms_are_no_larger.Goals as goal

pub returns-clause-count : goal.returns-clause-count
returns-clause-count c term = normal_count term

pub returns-clause-size : goal.returns-clause-size
returns-clause-size c term = normal_less by_size size_sums term

pub returns-clause-factor : goal.returns-clause-factor
returns-clause-factor c term = normal_less by_factor factor_sums term
