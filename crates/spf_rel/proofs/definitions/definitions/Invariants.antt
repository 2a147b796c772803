use Rattle.std.proofs.Common.{◌≡◌, ◌+◌, map, take}
use Rattle.spf_rel.specs.Graph.{definitions}
use Rattle.spf_rel.specs.Renumbering.{moved, renumbered}
use Rattle.spf_rel.proofs.definitions.definitions.Given as goal

abbrev pub invariant-loop-term : goal.invariant-loop-term
invariant-loop-term l = record {
  var : l.var ≡ l.first + l.term-index;
  made : l.made ≡ definitions l.first (map (renumbered (moved l.blocks)) (take l.term-index l.terms));
}
