use Rattle.std.proofs.Common.{arith}
use Rattle.std.proofs.lemmas.Grind.{common_steps}
use Rattle.spf_reltext.proofs.FactEquations.{ix_facts_are}
use Rattle.spf_reltext.proofs.fact.+facts.Goals as goal

pub push_ix-returns : goal.push_ix-returns
push_ix-returns t c =
    let e = ix_facts_are c.args.ix.now in
    grind (arith, common_steps)
