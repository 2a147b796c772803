use Rattle.std.proofs.Common.{◌≡◌, map, take, vec_items}
use Rattle.spf_exec.specs.Moves.{packing_table}
use Rattle.spf_exec.proofs.tables.packing_tables.Given as goal

abbrev pub invariant-loop-of : goal.invariant-loop-of
invariant-loop-of l = map vec_items l.tables.items ≡ map packing_table (take l.of-index l.moves)
