use Rattle.std.proofs.Common.{◌≡◌, ◌≤◌, length, map, take, vec_items}
use Rattle.std.specs.Prelude.{vec_capacity}
use Rattle.spf_core.proofs.order.Order.copy.Given as goal

-- the lists so far are copied, and there is room for the others
abbrev pub invariant-loop-list : goal.invariant-loop-list
invariant-loop-list l = record {
  same : map vec_items l.before.items ≡ map vec_items (take l.list-index l.list-items);
  room : length l.list-items ≤ vec_capacity l.before;
}
