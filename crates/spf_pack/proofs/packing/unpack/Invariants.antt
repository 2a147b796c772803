use Rattle.std.proofs.Common.{◌≡◌, length, drop}
use Rattle.spf_pack.proofs.PackedCells.{AreAhead, AreUnpacked}
use Rattle.spf_pack.proofs.packing.unpack.Given as goal

abbrev pub invariant-loop-packing : goal.invariant-loop-packing
invariant-loop-packing l = record {
  long : length l.out ≡ length l.cells;
  ahead : AreAhead l.packings (drop l.packing-index l.packings) l.start (length l.cells);
  done : AreUnpacked l.packings l.cells l.out l.start;
}
