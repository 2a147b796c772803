use Rattle.spf_input.proofs.ranges.push_decl.Goals as goal

pub returns-in-Err-clause-tests : goal.returns-in-Err-clause-tests
returns-in-Err-clause-tests c = rw c.in-Index.is c.in-Err.ensures.tests
