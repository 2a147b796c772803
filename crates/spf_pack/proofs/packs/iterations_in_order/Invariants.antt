use Rattle.std.proofs.Common.{◌≡◌, ◌+◌, map, take}
use Rattle.spf_pack.proofs.packs.iterations_in_order.Given as goal

abbrev pub invariant-loop-position : goal.invariant-loop-position
invariant-loop-position l = l.units.items ≡ map (λ iteration. l.first + iteration) (take l.position l.iterations-inside.list.items)
