use Rattle.spf_kernel.proofs.Common.{arith, common_steps, texts}
use Rattle.spf_kernel.proofs.resolve.values.+resolve_value.Goals as goal
use Rattle.spf_kernel.proofs.TermEquations.{paren_is}

pub resolve_factor-returns-in_ok-value-in-Paren : goal.resolve_factor-returns-in_ok-value-in-Paren
resolve_factor-returns-in_ok-value-in-Paren t c =
    let e = paren_is (texts c.args.source.now.tokens.now) c.args.source.now.names.now c.args.scope c.in-Paren.inside in
    grind (arith, common_steps)
