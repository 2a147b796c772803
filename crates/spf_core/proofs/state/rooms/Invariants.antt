use Rattle.std.proofs.Common.{◌≡◌, ℕ, None, length}
use Rattle.std.specs.List.{All}
use Rattle.spf_core.specs.Copies.{HasRoom, value_in}
use Rattle.spf_core.proofs.state.rooms.Given as goal

abbrev pub invariant-loop-worker : goal.invariant-loop-worker
invariant-loop-worker g l = record {
  workers : length l.copies.items ≡ l._worker;
  room : All (λ copied. HasRoom l.job.tiling copied) l.copies.items;
  empty : All (λ copied. (e : ℕ) → value_in copied e ≡ None) l.copies.items;
}
