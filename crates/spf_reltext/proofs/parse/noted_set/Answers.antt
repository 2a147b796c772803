use Rattle.std.proofs.Common.{Result, Ok, Err, IfOk, ◌≡◌, subst, sym}
use Rattle.spf_rel.specs.Meaning.{IsFormedSet}
use Rattle.spf_rel.specs.declared.relation.Set.{Set}
use Rattle.spf_reltext.specs.Resolved.{set_of}
use Rattle.spf_reltext.proofs.Extending.{extends_on_err}
use Rattle.spf_reltext.proofs.Formed.{set_formed}
use Rattle.spf_reltext.proofs.parse.noted_set.Goals as goal

pub returns-clause-begun : goal.returns-clause-begun
returns-clause-begun c = extends_on_err c.set_of.result c.args.names.now c.args.literals.now c.note_literals.new.names c.in_ok-note_literals.ensures.noted

pub returns-clause-formed : goal.returns-clause-formed
returns-clause-formed c = by c.set_of.result c.set_of.ensures where
  by : {E : Type 0} (result : Result Set E) → IfOk result (λ set. set ≡ set_of c.note_literals.new.names c.args.literals.now) → IfOk result IsFormedSet
  by (Ok found) same = subst IsFormedSet (sym same) (set_formed c.note_literals.new.names c.args.literals.now c.requires)
  by (Err fault) same = tt
