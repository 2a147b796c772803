use Rattle.std.proofs.Common.{◌≡◌, ◌+◌, drop}
use Rattle.spf_term.specs.Value.{applications}
use Rattle.spf_term.proofs.Monos.{list_applications}
use Rattle.spf_term.proofs.counts.+applications.Given as goal

abbrev pub invariant-applications-loop-mono : goal.invariant-applications-loop-mono
invariant-applications-loop-mono l = l.count + list_applications (drop l.mono-index l.mono-items) ≡ applications l.term
