use Rattle.spf_access.proofs.InRange.{in_range}
use Rattle.spf_access.proofs.laws.no_fault_is_in_range.Goals as goal

pub returns : goal.returns
returns c env tree steps none some = in_range env tree steps none some
