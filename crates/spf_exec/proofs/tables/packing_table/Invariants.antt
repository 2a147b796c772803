use Rattle.std.proofs.Common.{◌≡◌, map, pos, take}
use Rattle.spf_exec.proofs.tables.packing_table.Given as goal

abbrev pub invariant-loop-place : goal.invariant-loop-place
invariant-loop-place l = l.table.items ≡ map pos (take l.place l.perm)
