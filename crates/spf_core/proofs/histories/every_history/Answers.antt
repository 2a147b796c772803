use Rattle.std.proofs.Common.{ap}
use Rattle.spf_core.proofs.Induction.{full_result, held_result}
use Rattle.spf_core.proofs.histories.every_history.Goals as goal

pub returns-clause-held : goal.returns-clause-held
returns-clause-held c units job workers events law sound h e = ap (λ f. f e) (held_result units law job sound workers events h)

pub returns-clause-full : goal.returns-clause-full
returns-clause-full c units job workers events law sound h full e = ap (λ f. f e) (full_result units law job sound workers events h full)
