use Rattle.spf_grow.proofs.Alone.{nowhere}
use Rattle.spf_grow.proofs.laws.no_growth_where_the_seed_falls.Goals as goal

pub returns : goal.returns
returns c = nowhere
