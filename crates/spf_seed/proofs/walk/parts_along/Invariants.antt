use Rattle.std.proofs.Common.{◌≡◌, ◌<◌, ◌/◌, ℕ, length, slice_index}
use Rattle.std.specs.List.{All}
use Rattle.spf_seed.proofs.walk.parts_along.Given as goal

abbrev pub invariant-loop-place : goal.invariant-loop-place
invariant-loop-place l = record {
  long : length l.list.items ≡ length l.order;
  each : (r : ℕ) → r < l.place → slice_index l.list.items (slice_index l.order r) ≡ r / l.size;
  below : All (λ part. part < l.parts) l.list.items;
}
