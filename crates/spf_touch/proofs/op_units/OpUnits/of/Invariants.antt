use Rattle.std.proofs.Common.{◌≡◌, map, take, vec_items}
use Rattle.spf_touch.specs.Ops.{op_touches}
use Rattle.spf_touch.proofs.op_units.OpUnits.of.Given as goal

abbrev pub invariant-loop-ops : goal.invariant-loop-ops
invariant-loop-ops l = record {
  same : map vec_items l.touches.items ≡ map (λ ops. op_touches (vec_items ops)) (take l.ops-index l.ops-items);
}
