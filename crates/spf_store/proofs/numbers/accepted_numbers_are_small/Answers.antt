use Rattle.spf_store.proofs.SmallNumbers.{iteration_within, numbers_within}
use Rattle.spf_store.proofs.numbers.accepted_numbers_are_small.Goals as goal

pub returns-clause-numbers : goal.returns-clause-numbers
returns-clause-numbers c = numbers_within

pub returns-clause-iterations : goal.returns-clause-iterations
returns-clause-iterations c env tree unit each accepted = iteration_within env tree accepted unit each
