use Rattle.spf_reltext.proofs.Extending.{names_extend}
use Rattle.spf_reltext.proofs.names.names_are_kept.Goals as goal

pub returns : goal.returns
returns c = names_extend
