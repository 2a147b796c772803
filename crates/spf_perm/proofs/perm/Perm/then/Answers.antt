use Rattle.spf_perm.proofs.Bijections.{then_is_perm}
use Rattle.spf_perm.proofs.perm.Perm.then.Goals as goal

pub invariant_of-result : goal.invariant_of-result
invariant_of-result c = rw c.in_ok-entries_of.ensures (rw (c.as_slice.ensures.value, c.as_slice-2.ensures.value) (then_is_perm c.self.inside.list.items c.after.inside.list.items c.self.invariant c.after.invariant (cc)))
