use Rattle.std.proofs.Common.{◌≡◌, drop}
use Rattle.spf_term.specs.Solution.{mentions, some_mention}
use Rattle.spf_term.proofs.occurrences.+mentions.Given as goal

abbrev pub invariant-mentions-loop-mono : goal.invariant-mentions-loop-mono
invariant-mentions-loop-mono l = some_mention l.var (drop l.mono-index l.mono-items) ≡ mentions l.var l.term
