use Rattle.std.proofs.Common.{subst}
use Rattle.spf_pack.specs.FirstTouch.{IsFirstTouchPacking}
use Rattle.spf_pack.specs.Packs.{first_packing, touched_by}
use Rattle.spf_pack.proofs.OneOrder.{one_in_order}
use Rattle.spf_pack.proofs.Turned.{one_inverse}
use Rattle.spf_pack.proofs.laws.one_packing.Goals as goal

pub returns-clause-by_loop : goal.returns-clause-by_loop
returns-clause-by_loop c touches shape by order members now a b perm is_a is_b = one_inverse _ a b perm is_a is_b

pub returns-clause-by_tiles : goal.returns-clause-by_tiles
returns-clause-by_tiles c touches shape places members now a b perm is_a is_b =
    let same = one_in_order shape places is_a.units is_b.units is_a.ordered is_b.ordered in
    one_inverse _ a b perm (subst (λ units. IsFirstTouchPacking (touched_by touches shape.arrays members units) (first_packing members now) a) same is_a.first) is_b.first
