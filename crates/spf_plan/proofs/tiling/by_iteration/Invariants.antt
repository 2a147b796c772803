use Rattle.std.proofs.Common.{◌≡◌, take}
use Rattle.spf_plan.specs.Planned.{by_iteration}
use Rattle.spf_plan.proofs.tiling.by_iteration.Given as goal

abbrev pub invariant-loop-iteration : goal.invariant-loop-iteration
invariant-loop-iteration l = l.parts.items ≡ by_iteration (take l.iteration l.order) l.list
