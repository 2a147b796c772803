use Rattle.std.proofs.Common.{◌≡◌, take}
use Rattle.spf_reltext.specs.Names.{fact_names}
use Rattle.spf_reltext.proofs.names.note_facts.Given as goal

abbrev pub invariant-loop-fact : goal.invariant-loop-fact
invariant-loop-fact l = l.names ≡ fact_names l.variables l.fn.names (take l.fact-index l.facts)
