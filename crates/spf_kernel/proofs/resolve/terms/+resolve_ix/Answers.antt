use Rattle.spf_kernel.proofs.Common.{arith, common_steps, texts}
use Rattle.spf_kernel.proofs.resolve.terms.+resolve_ix.Goals as goal
use Rattle.spf_kernel.proofs.TermEquations.{term_is}

pub resolve_ix-returns : goal.resolve_ix-returns
resolve_ix-returns t c =
    let e = term_is (texts c.args.source.now.tokens.now) c.args.source.now.names.now c.args.scope c.args.ix.now in
    grind (arith, common_steps)
