use Rattle.std.proofs.Common.{◌≡◌, map}
use Rattle.std.specs.List.{range_with_len}
use Rattle.spf_space.specs.InOrder.{turn_of}
use Rattle.spf_space.proofs.in_order.listed.Given as goal

abbrev pub invariant-loop-unit : goal.invariant-loop-unit
invariant-loop-unit l = l.turns.items ≡ map (turn_of l.shape l.places) (range_with_len 0 l.unit)
