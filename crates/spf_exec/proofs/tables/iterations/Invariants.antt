use Rattle.std.proofs.Common.{◌≡◌, length, pos, ◌+ℤ◌}
use Rattle.spf_perm.proofs.Bijections.{AreMoved}
use Rattle.spf_exec.proofs.tables.iterations.Given as goal

abbrev pub invariant-loop-position : goal.invariant-loop-position
invariant-loop-position l = (length l.table.items ≡ length l.moves) × AreMoved l.moves (λ position. l.lower +ℤ pos position) (pos 0) l.table.items l.position
