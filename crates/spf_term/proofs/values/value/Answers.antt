use Rattle.std.proofs.Common.{rules, w64, ◌∙◌}
use Rattle.std.proofs.lemmas.Int.{to_z-of_z}
use Rattle.spf_term.specs.declared.values.Inside.{Inside}
use Rattle.spf_term.proofs.Outside.{all_inside, any_outside}
use Rattle.spf_term.proofs.values.value.Goals as goal

pub returns-in-Ok : goal.returns-in-Ok
returns-in-Ok c = (all_inside (λ (reader : Inside). reader.env.now) _ _ _ c.in-Ok.ensures.walks, to_z-of_z w64 c.in-Ok.walked.value (search rules) ∙ c.in-Ok.ensures.value)

pub returns-in-Err : goal.returns-in-Err
returns-in-Err c = any_outside (λ (reader : Inside). reader.env.now) _ _ _ c.in-Err.ensures.walks
