use Rattle.spf_kernel.proofs.Common.{take, flat_map, item_notes}
use Rattle.spf_kernel.specs.check.State.{Takes}
use Rattle.spf_kernel.proofs.check.notes.note_items.Given as goal

abbrev pub invariant-loop-item : goal.invariant-loop-item
invariant-loop-item l = Takes l.fn.check (flat_map (item_notes l.outer) (take l.item-index l.items)) l.check
