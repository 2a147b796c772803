use Rattle.std.proofs.Common.{◌≡◌, ℕ, ◌<◌, [], length, get_or}
use Rattle.spf_plan.specs.Packed.{IsNextPacking, IsPackingBy}
use Rattle.spf_plan.proofs.packing.next_packs.Given as goal

abbrev pub invariant-loop-n : goal.invariant-loop-n
invariant-loop-n l = record {
  long : length l.next ≡ l.n;
  each : (k : ℕ) → k < l.n → IsNextPacking l.arrays (IsPackingBy l.touches l.shape l.places l.arrays l.packs l.order) l.packs k (get_or l.next k []);
}
