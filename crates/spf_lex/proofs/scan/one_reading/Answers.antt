use Rattle.spf_lex.proofs.TokenReadings.{one_reading, one_fault, no_reading_and_fault}
use Rattle.spf_lex.proofs.scan.one_reading.Goals as goal

pub returns-clause-tokens : goal.returns-clause-tokens
returns-clause-tokens c = one_reading

pub returns-clause-fault : goal.returns-clause-fault
returns-clause-fault c = one_fault

pub returns-clause-either : goal.returns-clause-either
returns-clause-either c = no_reading_and_fault
