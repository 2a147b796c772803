use Rattle.std.proofs.Common.{◌≡◌, map, take}
use Rattle.spf_rel.specs.Renumbering.{moved}
use Rattle.spf_rel.proofs.Renumbered.{renumbered_mono}
use Rattle.spf_rel.proofs.renumber.+renumbered.Given as goal

abbrev pub invariant-renumbered-loop-mono : goal.invariant-renumbered-loop-mono
invariant-renumbered-loop-mono l = l.monos ≡ map (renumbered_mono (moved l.blocks)) (take l.mono-index l.mono-items)
