use Rattle.spf_script.proofs.OneAnswer.{one_answer}
use Rattle.spf_script.proofs.resolving.one_resolve_answer.Goals as goal

pub returns : goal.returns
returns c = one_answer
