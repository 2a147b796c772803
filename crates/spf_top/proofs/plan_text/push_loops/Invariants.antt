use Rattle.std.proofs.Common.{◌≡◌, ◌++◌}
use Rattle.std.specs.Prelude.{flat_map}
use Rattle.std.specs.List.{range_with_len}
use Rattle.spf_space.specs.Places.{order_of}
use Rattle.spf_top.specs.Outcome.{loop_at}
use Rattle.spf_top.specs.PlanText.{loop_line}
use Rattle.spf_top.proofs.plan_text.push_loops.Given as goal

abbrev pub invariant-loop-number : goal.invariant-loop-number
invariant-loop-number l = l.text.items ≡ l.fn.text.items ++ flat_map (λ number. loop_line (loop_at l.shape.loops number) (order_of l.places.orders number)) (range_with_len 0 l.number)
