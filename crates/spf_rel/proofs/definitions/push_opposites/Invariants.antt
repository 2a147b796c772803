use Rattle.std.proofs.Common.{◌≡◌, ◌++◌, map, take}
use Rattle.spf_rel.specs.Graph.{opposite_mono}
use Rattle.spf_rel.specs.Renumbering.{moved}
use Rattle.spf_rel.proofs.definitions.push_opposites.Given as goal

abbrev pub invariant-loop-mono : goal.invariant-loop-mono
invariant-loop-mono l = l.made ≡ l.fn.made ++ map (opposite_mono (moved l.blocks)) (take l.mono-index l.monos)
