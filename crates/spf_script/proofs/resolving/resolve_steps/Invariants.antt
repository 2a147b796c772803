use Rattle.std.proofs.Common.{◌≡◌, map, take}
use Rattle.spf_script.specs.Resolved.{resolved}
use Rattle.spf_script.proofs.resolving.resolve_steps.Given as goal

abbrev pub invariant-loop-step : goal.invariant-loop-step
invariant-loop-step l = l.made ≡ map (resolved l.shape) (take l.step-index l.steps)
