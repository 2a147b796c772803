use Rattle.spf_access.proofs.Coming.{AmongLoop}
use Rattle.spf_access.proofs.enumeration.walk_loop.Given as goal

abbrev pub invariant-loop-position : goal.invariant-loop-position
invariant-loop-position l = AmongLoop l.walk.env.now l.walk.tree.now l.fn.progress l.progress l.loop_no l.position
