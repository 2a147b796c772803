use Rattle.std.proofs.Common.{Result, Ok, Err, OnErr, take, subst}
use Rattle.spf_reltext.specs.Names.{Extends, names_of}
use Rattle.spf_reltext.specs.declared.names.RelNames.{RelNames}
use Rattle.spf_reltext.proofs.Extending.{behind, names_extend}
use Rattle.spf_reltext.proofs.names.note_literals.Goals as goal

pub returns-in_err-note_literal-clause-begun : goal.returns-in_err-note_literal-clause-begun
returns-in_err-note_literal-clause-begun c = by c.from_residual.result where
  before : RelNames
  before = names_of c.args.names.now (take c.loop-literal.literal-index c.args.literals.now)

  begun : Extends c.args.names.now c.note_literal.new.names
  begun = behind c.args.names.now before c.note_literal.new.names (names_extend c.args.names.now (take c.loop-literal.literal-index c.args.literals.now))
      (subst (λ names. Extends names c.note_literal.new.names) c.loop-literal.invariant c.in_err-note_literal.ensures.begun)

  by : {A E : Type 0} (result : Result A E) → OnErr result (Extends c.args.names.now c.note_literal.new.names)
  by (Ok found) = tt
  by (Err fault) = begun
