use Rattle.spf_term.proofs.Signs.{oriented_normal}
use Rattle.spf_term.proofs.solutions.oriented_terms_are_normal.Goals as goal

pub returns : goal.returns
returns c term normal = oriented_normal term normal
