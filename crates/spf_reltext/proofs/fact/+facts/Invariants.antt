use Rattle.std.proofs.Common.{◌≡◌, ◌++◌, flat_map, take}
use Rattle.spf_reltext.proofs.FactEquations.{mono_facts}
use Rattle.spf_reltext.proofs.fact.+facts.Given as goal

abbrev pub invariant-push_ix-loop-mono : goal.invariant-push_ix-loop-mono
invariant-push_ix-loop-mono l = l.facts ≡ l.fn.facts ++ flat_map mono_facts (take l.mono-index l.mono-items)
