use Rattle.spf_access.proofs.Touched.{inside_of, lists_of}
use Rattle.spf_access.proofs.laws.touched_elements_are_cells.Goals as goal

pub returns-clause-lists : goal.returns-clause-lists
returns-clause-lists c env tree steps = lists_of env tree steps

pub returns-clause-inside : goal.returns-clause-inside
returns-clause-inside c env tree steps none u e touched = inside_of env tree steps none u e touched
