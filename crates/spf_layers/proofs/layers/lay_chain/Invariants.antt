use Rattle.std.proofs.Common.{◌≡◌, ◌≤◌, List, length}
use Rattle.spf_layers.specs.Chains.{AreChained, Entry}
use Rattle.spf_layers.specs.Flat.{AreRows, groups_in}
use Rattle.spf_layers.proofs.Laying.{AreLaying}
use Rattle.spf_layers.proofs.layers.lay_chain.Given as goal

-- the entries so far are laid out
abbrev pub invariant-loop-number : goal.invariant-loop-number
invariant-loop-number l = record {
  flat : AreRows l.rows;
  start : l.start ≡ length l.initial.rows.classes.items;
  grown : l.start ≤ length l.rows.classes.items;
  inside : l.number ≤ length l.nodes;
  laying : (whole : List Entry) → AreChained l.nodes l.initial.number whole → AreLaying l.nodes l.number (groups_in l.initial.rows) (groups_in l.rows) whole;
}

abbrev pub decreases-loop-number : goal.decreases-loop-number
decreases-loop-number l = l.number
