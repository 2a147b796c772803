use Rattle.std.proofs.Common.{◌≡◌, take}
use Rattle.spf_exec.specs.Generated.{bodies_from}
use Rattle.spf_exec.proofs.generation.bodies.Given as goal

abbrev pub invariant-loop-loop_no : goal.invariant-loop-loop_no
invariant-loop-loop_no l = l.bodies ≡ bodies_from l.tree l.moved 0 (take l.loop_no l.each-items)
