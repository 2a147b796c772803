use Rattle.std.proofs.Common.{◌≡◌, drop}
use Rattle.spf_script.specs.Resolved.{parts_in}
use Rattle.spf_script.proofs.resolving.parts_in.Given as goal

abbrev pub invariant-loop-step : goal.invariant-loop-step
invariant-loop-step l = parts_in (drop l.step-index l.steps) ≡ parts_in l.steps
