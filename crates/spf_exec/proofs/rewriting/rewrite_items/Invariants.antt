use Rattle.std.proofs.Common.{◌≡◌, ◌++◌, map, take}
use Rattle.std.specs.List.{flat_map}
use Rattle.spf_exec.specs.BodyTerms.{item_terms}
use Rattle.spf_exec.specs.Placeable.{rewriting_of}
use Rattle.spf_exec.specs.Rewritten.{rewritten_item}
use Rattle.spf_exec.proofs.rewriting.rewrite_items.Given as goal

abbrev pub invariant-loop-item : goal.invariant-loop-item
invariant-loop-item l = record {
  listed : l.terms ≡ l.fn.terms ++ flat_map (item_terms (rewriting_of l.placing)) (take l.item-index l.items);
  made : l.rewritten ≡ map (rewritten_item (rewriting_of l.placing)) (take l.item-index l.items);
}
