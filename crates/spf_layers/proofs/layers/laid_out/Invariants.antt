use Rattle.std.proofs.Common.{◌≡◌, ℕ, List, length, map}
use Rattle.std.specs.List.{range_with_len}
use Rattle.spf_layers.specs.Chains.{AreChains, Entry, grouped_entries}
use Rattle.spf_layers.specs.Flat.{AreEnds, AreRows, groups_in, parts}
use Rattle.spf_layers.proofs.layers.laid_out.Given as goal

-- the groups of the elements so far
abbrev pub invariant-loop-head : goal.invariant-loop-head
invariant-loop-head l = record {
  flat : AreRows l.rows;
  ends : AreEnds (length l.rows.ends.items) 0 l.ends.items;
  elements : length l.ends.items ≡ l.head-index;
  laid : (of : ℕ → List Entry) → AreChains l.nodes l.heads of → parts (groups_in l.rows) 0 l.ends.items ≡ map (λ e. grouped_entries (of e)) (range_with_len 0 l.head-index);
}
