use Rattle.spf_access.specs.declared.terms.Inside.{Inside}
use Rattle.spf_access.proofs.TermReads.{reads}
use Rattle.spf_access.proofs.terms.walk_term.Goals as goal

pub returns-clause-walks : goal.returns-clause-walks
returns-clause-walks c progress = reads (λ (reader : Inside). reader.env.now) _ _ _ progress c.walk.result c.walk.ensures.walks
