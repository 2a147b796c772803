use Rattle.std.proofs.Common.{◌≡◌, ◌++◌, flat_map, take}
use Rattle.spf_reltext.proofs.TermEquations.{raw_monos}
use Rattle.spf_reltext.proofs.terms.+terms.Given as goal

abbrev pub invariant-push_monos-loop-mono : goal.invariant-push_monos-loop-mono
invariant-push_monos-loop-mono l = l.monos ≡ l.fn.monos ++ flat_map (raw_monos l.source.variables.now l.source.names.now l.flips) (take l.mono-index l.mono-items)
