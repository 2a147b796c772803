use Rattle.spf_access.proofs.Coming.{AmongLoop}
use Rattle.spf_access.proofs.enumeration.walk_loops.Given as goal

abbrev pub invariant-loop-loop_no : goal.invariant-loop-loop_no
invariant-loop-loop_no l = AmongLoop l.walk.env.now l.walk.tree.now l.fn.progress l.progress l.loop_no 0
