use Rattle.std.proofs.Common.{arith}
use Rattle.std.proofs.lemmas.Grind.{common_steps}
use Rattle.spf_reltext.proofs.TermEquations.{ix_monos_are}
use Rattle.spf_reltext.proofs.terms.+terms.Goals as goal

pub push_monos-returns : goal.push_monos-returns
push_monos-returns t c =
    let e = ix_monos_are c.args.source.now.variables.now c.args.source.now.names.now c.args.flips c.args.ix.now in
    grind (arith, common_steps)
