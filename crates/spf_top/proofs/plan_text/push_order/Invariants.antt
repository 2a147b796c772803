use Rattle.std.proofs.Common.{◌≡◌, ◌++◌, []}
use Rattle.std.specs.Prelude.{flat_map, slice_index_or}
use Rattle.std.specs.List.{range_with_len}
use Rattle.spf_top.specs.PlanText.{before_line}
use Rattle.spf_top.proofs.plan_text.push_order.Given as goal

abbrev pub invariant-loop-tile : goal.invariant-loop-tile
invariant-loop-tile l = l.text.items ≡ l.fn.text.items ++ flat_map (λ tile. before_line tile (slice_index_or l.order tile [])) (range_with_len 0 l.tile)
