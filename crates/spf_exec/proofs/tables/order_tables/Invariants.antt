use Rattle.std.proofs.Common.{◌≡◌, ◌<◌, ℕ, [], None, get_or, length, map, vec_items}
use Rattle.spf_space.specs.declared.shape.LoopShape.{LoopShape}
use Rattle.spf_exec.specs.Executor.{IsOrderTable}
use Rattle.spf_exec.proofs.tables.order_tables.Given as goal

abbrev pub invariant-loop-number : goal.invariant-loop-number
invariant-loop-number l = record {
  as_many : length l.tables.items ≡ l.number;
  each : (n : ℕ) (d : LoopShape) → n < l.number → IsOrderTable (get_or l.loops n d).lower (get_or l.moves n None) (get_or (map vec_items l.tables.items) n []);
}
