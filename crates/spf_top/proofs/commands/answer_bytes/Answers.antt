use Rattle.std.proofs.Common.{refl, inr}
use Rattle.spf_top.specs.Command.{answers}
use Rattle.spf_top.proofs.Complete.{no_loops_calculated}
use Rattle.spf_top.proofs.commands.answer_bytes.Goals as goal

pub returns-in-Ok-clause-text : goal.returns-in-Ok-clause-text
unfolding answers
returns-in-Ok-clause-text c = rw c.in-Calc.is (c.args.bytes.now, (refl, c.requires), c.in-Ok.ensures.text)

pub returns-in-Err-clause-refused : goal.returns-in-Err-clause-refused
unfolding answers
returns-in-Err-clause-refused c = rw (c.without_loops.ensures.outcome, c.in-Calc.is) (inr (c.args.bytes.now, (refl, c.requires), c.in-Err.ensures.refused))

pub returns-in-Err-clause-named : goal.returns-in-Err-clause-named
returns-in-Err-clause-named c = rw c.without_loops.ensures.outcome (no_loops_calculated c.args.bytes.now c.in-Err.outcome _ c.in-Err.ensures.refused)
