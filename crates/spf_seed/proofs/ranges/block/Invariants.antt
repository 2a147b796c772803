use Rattle.std.proofs.Common.{◌≡◌, ◌*◌, ◌/◌, map}
use Rattle.std.specs.List.{range_with_len}
use Rattle.spf_seed.proofs.ranges.block.Given as goal

abbrev pub invariant-loop-position : goal.invariant-loop-position
invariant-loop-position l = l.list.items ≡ map (λ position. position * l.parts / l.n) (range_with_len 0 l.position)
