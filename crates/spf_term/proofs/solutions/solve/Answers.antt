use Rattle.std.proofs.Common.{Some, ap, sym, ◌∙◌}
use Rattle.spf_term.proofs.Signs.{solution_ready}
use Rattle.spf_term.proofs.solutions.solve.Goals as goal

pub returns-in_ok-solved-in-Some-clause-ready : goal.returns-in_ok-solved-in-Some-clause-ready
returns-in_ok-solved-in-Some-clause-ready c made is =
    solution_ready c.args.low c.args.high c.args.term.now made c.requires.normal c.requires.keeps (c.in-Some.ensures.is ∙ ap Some (sym c.in_ok-solved-in-Some.ensures) ∙ is)
