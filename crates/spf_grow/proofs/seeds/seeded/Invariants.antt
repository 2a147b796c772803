use Rattle.std.proofs.Common.{◌≡◌, ℕ, ◌+◌, ◌<◌, length, get_or}
use Rattle.spf_grow.proofs.seeds.seeded.Given as goal

abbrev pub invariant-loop-position : goal.invariant-loop-position
invariant-loop-position l = record {
  each : length l.numbers.items ≡ l.count;
  seeded : (j : ℕ) → j < l.position → get_or l.numbers.items (l.first + j) 0 ≡ get_or l.seed j 0;
}
