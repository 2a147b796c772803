use Rattle.spf_perm.proofs.Bijections.{identity_is_perm}
use Rattle.spf_perm.proofs.perm.Perm.identity.Goals as goal

pub invariant_of-result : goal.invariant_of-result
invariant_of-result c = rw c.in_ok-numbers_below.ensures (identity_is_perm c.args.len c.ranges.len.fits)
