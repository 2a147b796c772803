use Rattle.spf_input.specs.Numbers.{param_values, table_values}
use Rattle.spf_input.proofs.Accepting.{accepted}
use Rattle.spf_input.proofs.Filling.{filled}
use Rattle.spf_input.proofs.Plain.{parsed_same}
use Rattle.spf_input.proofs.laws.kept_input_is_accepted.Goals as goal

pub returns-clause-accepted : goal.returns-clause-accepted
returns-clause-accepted c = λ tree given parsed unbroken. accepted tree given (parsed_same (param_values tree given) (table_values tree given) tree parsed) unbroken

pub returns-clause-filled : goal.returns-clause-filled
returns-clause-filled c = λ tree given parsed unbroken. filled tree given (parsed_same (param_values tree given) (table_values tree given) tree parsed) unbroken
