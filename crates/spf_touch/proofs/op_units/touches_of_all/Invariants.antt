use Rattle.std.proofs.Common.{◌≡◌, drop}
use Rattle.std.specs.List.{flat_map}
use Rattle.spf_touch.specs.Actions.{accesses}
use Rattle.spf_touch.specs.Noted.{noted_all}
use Rattle.spf_touch.specs.Ops.{actions_of, op_touches}
use Rattle.spf_touch.proofs.op_units.touches_of_all.Given as goal

-- the touches so far and what is left give the touches of all
abbrev pub invariant-loop-op : goal.invariant-loop-op
invariant-loop-op l = noted_all l.touches.items (flat_map accesses (actions_of (drop l.op-index l.ops))) ≡ op_touches l.ops
