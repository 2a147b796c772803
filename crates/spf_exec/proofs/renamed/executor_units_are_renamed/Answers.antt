use Rattle.std.proofs.Common.{ap}
use Rattle.spf_exec.proofs.AlikeUnits.{unit_allowed, unit_alike}
use Rattle.spf_exec.proofs.renamed.executor_units_are_renamed.Goals as goal

pub returns-clause-effects : goal.returns-clause-effects
returns-clause-effects c env tree moved orders packings renaming unit bound is_unit range values e =
    ap (λ made. made e) ((unit_alike c.normal_form_keeps_the_value.ensures c.substitution_keeps_the_value.ensures env tree moved orders packings renaming unit bound is_unit range).effects values)

pub returns-clause-accesses : goal.returns-clause-accesses
returns-clause-accesses c env tree moved orders packings renaming unit bound is_unit range =
    (unit_alike c.normal_form_keeps_the_value.ensures c.substitution_keeps_the_value.ensures env tree moved orders packings renaming unit bound is_unit range).accesses

pub returns-clause-allowed : goal.returns-clause-allowed
returns-clause-allowed c env tree moved orders packings renaming unit bound is_unit range owns own =
    unit_allowed c.normal_form_keeps_the_value.ensures c.substitution_keeps_the_value.ensures env tree moved orders packings renaming unit bound is_unit range owns own
