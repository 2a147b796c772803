use Rattle.spf_layers.proofs.Layered.{exact_fit}
use Rattle.spf_layers.proofs.laws.exact_groups_fit.Goals as goal

pub returns : goal.returns
returns c = exact_fit
