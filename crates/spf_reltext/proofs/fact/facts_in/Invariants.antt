use Rattle.std.proofs.Common.{◌≡◌, take}
use Rattle.spf_reltext.specs.Facts.{constraints_facts}
use Rattle.spf_reltext.proofs.fact.facts_in.Given as goal

abbrev pub invariant-loop-constraint : goal.invariant-loop-constraint
invariant-loop-constraint l = l.facts ≡ constraints_facts (take l.constraint-index l.constraints)
