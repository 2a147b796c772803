use Rattle.std.proofs.Common.{◌≡◌, ◌++◌, map, take}
use Rattle.spf_emit.specs.Naming.{order_name}
use Rattle.spf_emit.proofs.names.add_orders.Given as goal

abbrev pub invariant-loop-each : goal.invariant-loop-each
invariant-loop-each l = l.names ≡ l.fn.names ++ map order_name (take l.each-index l.loops)
