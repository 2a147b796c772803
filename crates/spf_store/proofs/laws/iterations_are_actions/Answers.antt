use Rattle.spf_store.specs.ActionEffect.{effect_is_performed}
use Rattle.spf_store.specs.ActionTrace.{items_fit}
use Rattle.spf_store.proofs.laws.iterations_are_actions.Goals as goal

pub returns-clause-accesses : goal.returns-clause-accesses
returns-clause-accesses c = items_fit

pub returns-clause-effects : goal.returns-clause-effects
returns-clause-effects c = effect_is_performed
