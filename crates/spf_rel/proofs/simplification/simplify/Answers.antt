use Rattle.std.proofs.Common.{[], arith}
use Rattle.spf_rel.specs.declared.relation.Conj.{Conj}
use Rattle.spf_rel.proofs.simplification.simplify.Goals as goal

pub overflow_add-r : goal.overflow_add-r
overflow_add-r c =
    let any : Conj = record { inner = 0; equal = []; least = [] } in
    let some = c.len.ensures in
    let few = (c.requires 0 any (omega (arith, some, c.if-len-eq0.false))).few in
    omega (arith, few)
