use Rattle.std.proofs.Common.{refl, inl, inr}
use Rattle.spf_top.specs.Command.{answers}
use Rattle.spf_top.proofs.Complete.{has_loops, no_loops, no_loops_measured}
use Rattle.spf_top.proofs.commands.answer_bundle.Goals as goal

pub returns-in-Err-clause-refused : goal.returns-in-Err-clause-refused
unfolding answers
returns-in-Err-clause-refused c = rw c.without_loops.ensures.outcome (inr (c.args.bytes.now, (refl, c.requires), inl (c.in-Err.fault, c.in-Err.ensures, c.refusal.ensures.refused)))

pub returns-in-Err-clause-named : goal.returns-in-Err-clause-named
returns-in-Err-clause-named c = rw (c.without_loops.ensures.outcome, c.refusal.ensures.refused) (no_loops c.args.bytes.now c.in-Err.fault _)

pub returns-in-Err-measure-clause-refused : goal.returns-in-Err-measure-clause-refused
unfolding answers
returns-in-Err-measure-clause-refused c =
    rw c.without_loops-in-Err-measure.ensures.outcome (inr (c.args.bytes.now, (refl, c.requires), inr (c.in-Ok.bundle, c.in-Ok.ensures, inl c.in-Err-measure.ensures.answer)))

pub returns-in-Err-measure-clause-named : goal.returns-in-Err-measure-clause-named
returns-in-Err-measure-clause-named c =
    rw c.without_loops-in-Err-measure.ensures.outcome (no_loops_measured c.args.bytes.now c.in-Ok.bundle c.in-Err-measure.outcome _ c.in-Err-measure.ensures.answer)

pub returns-in-Ok-carry_out-clause-text : goal.returns-in-Ok-carry_out-clause-text
unfolding answers
returns-in-Ok-carry_out-clause-text c =
    (c.args.bytes.now, (refl, c.requires), (c.in-Ok.bundle, c.in-Ok.ensures, ((c.in-Ok.bundle, c.in-Ok-measure.shape), (refl, c.in-Ok-measure.ensures.answer), c.in-Ok-carry_out.ensures.text)))

pub returns-in-Err-carry_out-clause-refused : goal.returns-in-Err-carry_out-clause-refused
unfolding answers
returns-in-Err-carry_out-clause-refused c =
    inr (c.args.bytes.now, (refl, c.requires), inr (c.in-Ok.bundle, c.in-Ok.ensures, inr ((c.in-Ok.bundle, c.in-Ok-measure.shape), (refl, c.in-Ok-measure.ensures.answer), c.in-Err-carry_out.ensures.refused)))

pub returns-in-Err-carry_out-clause-named : goal.returns-in-Err-carry_out-clause-named
returns-in-Err-carry_out-clause-named c = has_loops c.args.bytes.now c.in-Ok.bundle c.in-Err-carry_out.outcome c.in-Ok-measure.shape.loops c.in-Ok.ensures c.in-Ok-measure.ensures.answer.loops
