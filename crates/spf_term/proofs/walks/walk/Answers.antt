use Rattle.std.proofs.Common.{◌∙◌}
use Rattle.std.proofs.lemmas.Result.{IfOk-weaker}
use Rattle.spf_term.proofs.Progress.{wrap_of_small}
use Rattle.spf_term.proofs.walks.walk.Goals as goal

pub returns-clause-value : goal.returns-clause-value
returns-clause-value g c = IfOk-weaker c.walk_term.result _ _ (λ walked is. is ∙ wrap_of_small _ c.requires.small.value) c.walk_term.ensures.value
