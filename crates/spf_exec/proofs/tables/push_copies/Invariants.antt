use Rattle.std.proofs.Common.{◌≡◌, ◌++◌, map, take, vec_items}
use Rattle.spf_exec.proofs.tables.push_copies.Given as goal

abbrev pub invariant-loop-table : goal.invariant-loop-table
invariant-loop-table l = map vec_items l.tables.items ≡ map vec_items l.fn.tables.items ++ map vec_items (take l.table-index l.from)
