use Rattle.spf_calc.proofs.Running.{none_runs, some_runs, value_is_good}
use Rattle.spf_calc.proofs.steps.run.Goals as goal

pub leave-requires-clause-good : goal.leave-requires-clause-good
leave-requires-clause-good c =
    value_is_good c.args.names.now c.args.state c.args.statement.now _ _ _ c.bindings.ensures.bindings c.exp_of.ensures c.in_ok-evaluate.ensures c.in-Some.value c.in-Some.is c.requires.good

pub returns-in-None : goal.returns-in-None
returns-in-None c = none_runs c.args.names.now c.args.state c.args.statement.now _ _ _ c.bindings.ensures.bindings c.exp_of.ensures c.in_ok-evaluate.ensures c.in-None.is

pub returns-in-Some : goal.returns-in-Some
returns-in-Some c =
    some_runs c.args.names.now c.args.state c.args.statement.now _ _ _ c.bindings.ensures.bindings c.exp_of.ensures c.in_ok-evaluate.ensures c.in-Some.value c.in-Some.is c.leave.result c.leave.ensures
