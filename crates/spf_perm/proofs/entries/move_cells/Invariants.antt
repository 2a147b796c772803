use Rattle.std.proofs.Common.{pos, slice_index_or}
use Rattle.spf_perm.proofs.Bijections.{AreMoved}
use Rattle.spf_perm.proofs.entries.move_cells.Given as goal

abbrev pub invariant-loop-place : goal.invariant-loop-place
invariant-loop-place l = AreMoved l.list (λ e. slice_index_or l.from e (pos 0)) (pos 0) l.to l.place
