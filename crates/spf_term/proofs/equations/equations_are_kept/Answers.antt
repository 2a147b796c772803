use Rattle.spf_term.proofs.Solving.{equation_kept}
use Rattle.spf_term.proofs.equations.equations_are_kept.Goals as goal

pub returns : goal.returns
returns c var other by term differs apart = equation_kept var other by term differs apart
