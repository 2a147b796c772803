use Rattle.std.proofs.Common.{◌≡◌, ◌+◌, ◌-◌, ◌≤◌, drop}
use Rattle.spf_space.specs.Layout.{cells_in}
use Rattle.spf_pack.specs.Packing.{packed_element}
use Rattle.spf_exec.specs.Moves.{packings_from, packings_of}
use Rattle.spf_exec.proofs.moves.packed_element.Given as goal

abbrev pub invariant-loop-number : goal.invariant-loop-number
invariant-loop-number l = record {
  within : l.place ≤ l.element;
  cells : l.element - l.place + cells_in (drop l.number l.arrays) ≡ cells_in l.arrays;
  rest : packed_element (packings_of l.moves l.arrays) l.element ≡ l.element - l.place + packed_element (packings_from l.moves l.number (drop l.number l.arrays)) l.place;
}
