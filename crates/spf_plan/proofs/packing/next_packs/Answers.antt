use Rattle.std.proofs.Common.{◌∷◌, [], ap, length, length-append, arith}
use Rattle.spf_plan.specs.Packed.{IsNextPacking, IsPackingBy}
use Rattle.spf_plan.proofs.Packings.{next_pushed}
use Rattle.spf_plan.proofs.packing.next_packs.Goals as goal

pub loop-n-preserved : goal.loop-n-preserved
loop-n-preserved c =
    let P = IsNextPacking c.args.arrays.now (IsPackingBy c.args.touches.now c.args.shape.now c.args.places.now c.args.arrays.now c.args.packs.now c.args.order) c.args.packs.now in
    record {
      long = omega (arith, ap length c.in_ok-push.ensures.ok, length-append c.loop-n.next (c.in_ok-packing.packing ∷ []), c.loop-n.invariant.long);
      each = rw c.in_ok-push.ensures.ok (next_pushed P c.loop-n.next c.in_ok-packing.packing c.loop-n.n c.loop-n.invariant.long c.loop-n.invariant.each c.in_ok-packing.ensures);
    }

pub returns : goal.returns
returns c = record {
  each_array = omega (arith, c.loop-n.invariant.long);
  packings = λ k lt. c.loop-n.invariant.each k (omega arith);
}
