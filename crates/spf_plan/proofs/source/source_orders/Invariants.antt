use Rattle.std.proofs.Common.{◌≡◌, take}
use Rattle.spf_plan.specs.Planned.{source_orders}
use Rattle.spf_plan.proofs.source.source_orders.Given as goal

abbrev pub invariant-loop-each : goal.invariant-loop-each
invariant-loop-each l = l.orders ≡ source_orders (take l.each-index l.loops)
