use Rattle.spf_kernel.proofs.Common.{arith, subst, texts, item_notes, AreNames}
use Rattle.spf_kernel.proofs.resolve.loops.resolve_item.Goals as goal

pub resolve_name-requires : goal.resolve_name-requires
resolve_name-requires c = subst (λ item. AreNames (texts c.args.source.now.tokens.now) (item_notes c.args.outer item)) c.in-Inner.is c.requires 0 c.in-Inner.range.var (omega arith)
