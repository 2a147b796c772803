use Rattle.std.proofs.Common.{◌≡◌, length, drop}
use Rattle.spf_pack.proofs.PackedCells.{AreAhead, ArePacked}
use Rattle.spf_pack.proofs.packing.pack_arrays.Given as goal

abbrev pub invariant-loop-packing : goal.invariant-loop-packing
invariant-loop-packing l = record {
  long : length l.moved ≡ length l.cells;
  ahead : AreAhead l.packings (drop l.packing-index l.packings) l.start (length l.cells);
  done : ArePacked l.packings l.cells l.moved l.start;
}
