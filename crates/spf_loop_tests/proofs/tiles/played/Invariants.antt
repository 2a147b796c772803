use Rattle.std.proofs.Common.{◌≤◌}
use Rattle.spf_loop_tests.proofs.tiles.played.Given as goal

abbrev pub invariant-loop-number : goal.invariant-loop-number
invariant-loop-number g l = l.full ≤ l.number
