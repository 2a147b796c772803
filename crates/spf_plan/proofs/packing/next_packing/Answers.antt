use Rattle.spf_plan.proofs.Packings.{can_pack}
use Rattle.spf_plan.proofs.packing.next_packing.Goals as goal

pub new_packing-requires-clause-can : goal.new_packing-requires-clause-can
new_packing-requires-clause-can c =
    rw c.in-Some.ensures.0
    (can_pack c.args.touches.now c.args.shape.now c.args.arrays.now c.args.packs.now c.requires.lists c.requires.packs c.requires.alike c.args.n c.in-Some.ensures.1 c.args.places.now c.args.order c.requires.places c.requires.order)
