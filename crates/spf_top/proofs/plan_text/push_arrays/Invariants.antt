use Rattle.std.proofs.Common.{◌≡◌, ◌++◌}
use Rattle.std.specs.Prelude.{flat_map}
use Rattle.std.specs.List.{range_with_len}
use Rattle.spf_plan.specs.Planned.{pack_of}
use Rattle.spf_top.specs.PlanText.{array_at, data_line}
use Rattle.spf_top.proofs.plan_text.push_arrays.Given as goal

abbrev pub invariant-loop-index : goal.invariant-loop-index
invariant-loop-index l = l.text.items ≡ l.fn.text.items ++ flat_map (λ number. data_line (array_at l.arrays number) (pack_of l.plan number)) (range_with_len 0 l.index)
