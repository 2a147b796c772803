use Rattle.spf_touch.proofs.Lifting.{lifted}
use Rattle.spf_touch.proofs.laws.work_on_a_copy.Goals as goal

pub returns : goal.returns
returns c units us values law below e = lifted units law us values below e
