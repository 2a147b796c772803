use Rattle.spf_kernel.proofs.Common.{◌≡◌, map, take, texts, item_of}
use Rattle.spf_kernel.proofs.resolve.loops.resolve_items.Given as goal

abbrev pub invariant-loop-item : goal.invariant-loop-item
invariant-loop-item l = l.all ≡ map (item_of (texts l.source.tokens.now) l.source.names.now l.outer) (take l.item-index l.items)
