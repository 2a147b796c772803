use Rattle.std.proofs.Common.{◌≡◌, drop}
use Rattle.spf_term.specs.Solution.{some_mention}
use Rattle.spf_term.proofs.occurrences.some_mention.Given as goal

abbrev pub invariant-loop-mono : goal.invariant-loop-mono
invariant-loop-mono l = some_mention l.var (drop l.mono-index l.monos) ≡ some_mention l.var l.monos
