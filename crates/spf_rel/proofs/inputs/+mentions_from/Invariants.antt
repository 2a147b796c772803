use Rattle.std.proofs.Common.{◌≡◌, drop}
use Rattle.spf_rel.specs.Function.{mentions_from}
use Rattle.spf_rel.proofs.Mentioning.{some_mention}
use Rattle.spf_rel.proofs.inputs.+mentions_from.Given as goal

abbrev pub invariant-mentions_from-loop-mono : goal.invariant-mentions_from-loop-mono
invariant-mentions_from-loop-mono l = some_mention l.low (drop l.mono-index l.mono-items) ≡ mentions_from l.low l.term
