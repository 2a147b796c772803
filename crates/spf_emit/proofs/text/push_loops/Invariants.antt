use Rattle.std.proofs.Common.{◌≡◌, ◌++◌, drop}
use Rattle.spf_emit.specs.Text.{loops_text}
use Rattle.spf_emit.proofs.text.push_loops.Given as goal

-- what is written, and what is still to be, are the whole
abbrev pub invariant-loop-n : goal.invariant-loop-n
invariant-loop-n l = l.text.items ++ loops_text l.names (drop l.n l.bodies) (drop l.n l.loops) ≡ l.fn.text.items ++ loops_text l.names l.bodies l.loops
