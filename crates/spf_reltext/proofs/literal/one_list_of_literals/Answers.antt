use Rattle.spf_reltext.proofs.OneReading.{no_fault, one_reading}
use Rattle.spf_reltext.proofs.literal.one_list_of_literals.Goals as goal

pub returns-clause-one : goal.returns-clause-one
returns-clause-one c = one_reading

pub returns-clause-no_fault : goal.returns-clause-no_fault
returns-clause-no_fault c = no_fault
