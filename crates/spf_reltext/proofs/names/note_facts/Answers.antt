use Rattle.std.proofs.Common.{Result, Ok, Err, OnErr, take, subst}
use Rattle.spf_reltext.specs.Names.{Extends, fact_names}
use Rattle.spf_reltext.specs.declared.names.RelNames.{RelNames}
use Rattle.spf_reltext.proofs.Extending.{behind, facts_extend}
use Rattle.spf_reltext.proofs.names.note_facts.Goals as goal

pub returns-in_err-note-clause-begun : goal.returns-in_err-note-clause-begun
returns-in_err-note-clause-begun c = by c.from_residual.result where
  before : RelNames
  before = fact_names c.args.variables.now c.args.names.now (take c.loop-fact.fact-index c.args.facts.now)

  begun : Extends c.args.names.now c.note.new.names
  begun = behind c.args.names.now before c.note.new.names (facts_extend c.args.variables.now c.args.names.now (take c.loop-fact.fact-index c.args.facts.now))
      (subst (λ names. Extends names c.note.new.names) c.loop-fact.invariant c.in_err-note.ensures.begun)

  by : {A E : Type 0} (result : Result A E) → OnErr result (Extends c.args.names.now c.note.new.names)
  by (Ok found) = tt
  by (Err fault) = begun
