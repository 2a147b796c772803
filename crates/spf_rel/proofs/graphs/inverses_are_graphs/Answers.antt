use Rattle.spf_rel.proofs.Turned.{inverse_is, reversed_formed}
use Rattle.spf_rel.proofs.graphs.inverses_are_graphs.Goals as goal

pub returns-clause-inverse : goal.returns-clause-inverse
returns-clause-inverse c ins terms each = inverse_is ins terms each

pub returns-clause-formed : goal.returns-clause-formed
returns-clause-formed c ins terms each few = reversed_formed ins terms each few
