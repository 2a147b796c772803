use Rattle.spf_kernel.proofs.Common.{texts, item_notes}
use Rattle.spf_kernel.proofs.resolve.loops.resolve_items.Goals as goal
use Rattle.spf_kernel.proofs.Naming.{names_at}

pub resolve_item-requires : goal.resolve_item-requires
resolve_item-requires c = names_at (texts c.args.source.now.tokens.now) (item_notes c.args.outer) c.args.items.now c.loop-item.item-index c.item-item.result c.loop-item-test.true c.item-item.is c.requires
