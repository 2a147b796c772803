use Rattle.std.proofs.Common.{◌≡◌, ◌++◌, ◌+◌, ◌*◌, take}
use Rattle.std.specs.Prelude.{flat_map}
use Rattle.std.specs.List.{range_with_len}
use Rattle.spf_space.specs.Layout.{iterations}
use Rattle.spf_top.specs.Outcome.{loop_at}
use Rattle.spf_top.specs.PlanText.{at_line, tiles_at}
use Rattle.spf_top.proofs.plan_text.push_step.Given as goal

abbrev pub invariant-loop-each : goal.invariant-loop-each
invariant-loop-each l = record {
  first : l.first ≡ l.step * iterations l.shape.loops + iterations (take l.each-index l.shape.loops);
  text : l.text.items ≡ l.fn.text.items ++ flat_map (λ number. at_line l.step (loop_at l.shape.loops number) (tiles_at l.shape.loops l.tiles l.step number)) (range_with_len 0 l.each-index);
}
