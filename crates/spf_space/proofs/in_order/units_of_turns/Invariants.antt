use Rattle.std.proofs.Common.{◌≡◌, map, take}
use Rattle.spf_space.specs.declared.in_order.Turn.{Turn}
use Rattle.spf_space.proofs.in_order.units_of_turns.Given as goal

abbrev pub invariant-loop-turn : goal.invariant-loop-turn
invariant-loop-turn l = l.units.items ≡ map (λ (turn : Turn). turn.unit) (take l.turn-index l.turns)
