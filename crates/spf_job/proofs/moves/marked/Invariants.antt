use Rattle.std.proofs.Common.{◌≡◌, map, slice_index_or, true, []}
use Rattle.std.specs.List.{range_with_len}
use Rattle.spf_job.specs.PlanMoves.{move_by}
use Rattle.spf_job.proofs.moves.marked.Given as goal

abbrev pub invariant-loop-n : goal.invariant-loop-n
invariant-loop-n l = l.moves ≡ map (λ n. move_by (slice_index_or l.marks n true) (slice_index_or l.perms n [])) (range_with_len 0 l.n)
