use Rattle.std.proofs.Common.{◌≡◌, ℕ, ◌+◌, ◌<◌, get_or, length, pos}
use Rattle.spf_perm.specs.Perm.{at}
use Rattle.spf_pack.proofs.packing.unpack_array.Given as goal

abbrev pub invariant-loop-place : goal.invariant-loop-place
invariant-loop-place l = record {
  long : length l.out ≡ length l.cells;
  done : (e : ℕ) → e < l.place → get_or l.out (l.start + e) (pos 0) ≡ get_or l.cells (l.start + at l.packing e) (pos 0);
  before : (e : ℕ) → e < l.start → get_or l.out e (pos 0) ≡ get_or l.fn.out e (pos 0);
}
