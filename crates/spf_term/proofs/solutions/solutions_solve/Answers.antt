use Rattle.spf_term.proofs.Solved.{solution_solves}
use Rattle.spf_term.proofs.solutions.solutions_solve.Goals as goal

pub returns : goal.returns
returns c low high term found is = solution_solves low high term found is
