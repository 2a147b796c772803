use Rattle.std.proofs.Common.{sym}
use Rattle.spf_rel.proofs.Listed.{differ}
use Rattle.spf_rel.proofs.tidying.same_terms.Goals as goal

pub returns-then-terms-others : goal.returns-then-terms-others
returns-then-terms-others c = sym (differ c.args.terms.now c.args.others.now c.if-terms-others.true)
