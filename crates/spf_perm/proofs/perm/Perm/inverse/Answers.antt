use Rattle.spf_perm.proofs.Bijections.{inverse_is_perm}
use Rattle.spf_perm.proofs.perm.Perm.inverse.Goals as goal

pub invariant_of-result : goal.invariant_of-result
invariant_of-result c = inverse_is_perm _ _ c.self.invariant (rw c.as_slice.ensures.value at c.in_ok-places_of.ensures)
