use Rattle.std.proofs.Common.{◌≡◌, map, take, vec_items}
use Rattle.spf_loop_tests.proofs.tiles.lists.Given as goal

abbrev pub invariant-loop-row : goal.invariant-loop-row
invariant-loop-row g l = map vec_items l.lists.items ≡ map (λ row. row.now) (take l.row-index l.rows)
