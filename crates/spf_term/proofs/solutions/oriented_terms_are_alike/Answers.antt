use Rattle.spf_term.proofs.Solved.{oriented_alike}
use Rattle.spf_term.proofs.solutions.oriented_terms_are_alike.Goals as goal

pub returns : goal.returns
returns c env variables term = oriented_alike env variables term
