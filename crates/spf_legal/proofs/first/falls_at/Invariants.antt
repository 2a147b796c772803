use Rattle.std.proofs.Common.{◌+◌, ◌≤◌, length}
use Rattle.spf_layers.specs.Groups.{element_groups}
use Rattle.spf_layers.specs.Legality.{IsFirst}
use Rattle.spf_legal.specs.Falling.{NeighboursFall, number_in}
use Rattle.spf_legal.proofs.first.falls_at.Given as goal

-- the first among the neighbours so far
abbrev pub invariant-loop-n : goal.invariant-loop-n
invariant-loop-n l = record {
  far : l.n ≤ length (element_groups l.layers l.element) + 1;
  pair : IsFirst (NeighboursFall (number_in l.shape l.places) (element_groups l.layers l.element) l.n) l.first;
}
