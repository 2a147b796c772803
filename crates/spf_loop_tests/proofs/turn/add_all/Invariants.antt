use Rattle.spf_loop_tests.specs.Turns.{IsFree}
use Rattle.spf_loop_tests.proofs.turn.add_all.Given as goal

abbrev pub invariant-loop-amount : goal.invariant-loop-amount
invariant-loop-amount g l = IsFree l.turn l.pass
