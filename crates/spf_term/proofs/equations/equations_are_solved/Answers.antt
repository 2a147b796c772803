use Rattle.spf_term.proofs.Solving.{solved, unsolved}
use Rattle.spf_term.proofs.equations.equations_are_solved.Goals as goal

pub returns-clause-solved : goal.returns-clause-solved
returns-clause-solved c low high var term from to apart = solved low high var term apart from to

pub returns-clause-unsolved : goal.returns-clause-unsolved
returns-clause-unsolved c low high var term below apart = unsolved low high var term apart below
