use Rattle.spf_grow.proofs.Alone.{one, one_list}
use Rattle.spf_grow.proofs.laws.one_growth.Goals as goal

pub returns : goal.returns
returns c = record { numbers = one; lists = one_list }
