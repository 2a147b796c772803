use Rattle.std.proofs.Common.{Result, Ok, Err, IfOk, ◌≡◌, subst, sym}
use Rattle.spf_rel.specs.Meaning.{IsFormedRel}
use Rattle.spf_rel.specs.declared.relation.Rel.{Rel}
use Rattle.spf_reltext.specs.Resolved.{rel_of}
use Rattle.spf_reltext.proofs.Extending.{extends_on_err}
use Rattle.spf_reltext.proofs.Formed.{rel_formed}
use Rattle.spf_reltext.proofs.parse.noted_rel.Goals as goal

pub returns-clause-begun : goal.returns-clause-begun
returns-clause-begun c = extends_on_err c.rel_of.result c.args.names.now c.args.literals.now c.note_literals.new.names c.in_ok-note_literals.ensures.noted

pub returns-clause-formed : goal.returns-clause-formed
returns-clause-formed c = by c.rel_of.result c.rel_of.ensures where
  by : {E : Type 0} (result : Result Rel E) → IfOk result (λ rel. rel ≡ rel_of c.note_literals.new.names c.args.literals.now) → IfOk result IsFormedRel
  by (Ok found) same = subst IsFormedRel (sym same) (rel_formed c.note_literals.new.names c.args.literals.now c.requires)
  by (Err fault) same = tt
