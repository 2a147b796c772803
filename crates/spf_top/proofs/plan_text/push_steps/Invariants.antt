use Rattle.std.proofs.Common.{◌≡◌, ◌++◌}
use Rattle.std.specs.Prelude.{flat_map}
use Rattle.std.specs.List.{range_with_len}
use Rattle.spf_top.specs.PlanText.{step_lines}
use Rattle.spf_top.proofs.plan_text.push_steps.Given as goal

abbrev pub invariant-loop-step : goal.invariant-loop-step
invariant-loop-step l = l.text.items ≡ l.fn.text.items ++ flat_map (step_lines l.shape.loops l.tiles) (range_with_len 0 l.step)
