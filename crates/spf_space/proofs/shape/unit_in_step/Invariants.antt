use Rattle.std.proofs.Common.{◌≡◌, ◌+◌}
use Rattle.spf_space.proofs.Standing.{before}
use Rattle.spf_space.proofs.shape.unit_in_step.Given as goal

abbrev pub invariant-loop-loop_no : goal.invariant-loop-loop_no
invariant-loop-loop_no l = before l.loops l.loop_no + l.position ≡ l.place
