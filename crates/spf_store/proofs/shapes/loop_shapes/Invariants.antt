use Rattle.std.proofs.Common.{◌≡◌, map, take}
use Rattle.spf_store.specs.Shaped.{loop_shape}
use Rattle.spf_store.proofs.shapes.loop_shapes.Given as goal

abbrev pub invariant-loop-each : goal.invariant-loop-each
invariant-loop-each l = l.shapes ≡ map (loop_shape l.env) (take l.each-index l.loops)
