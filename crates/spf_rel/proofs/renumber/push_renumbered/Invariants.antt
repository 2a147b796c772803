use Rattle.std.proofs.Common.{◌≡◌, ◌++◌, map, take}
use Rattle.spf_rel.specs.Renumbering.{moved, renumbered}
use Rattle.spf_rel.proofs.renumber.push_renumbered.Given as goal

abbrev pub invariant-loop-term : goal.invariant-loop-term
invariant-loop-term l = l.made ≡ l.fn.made ++ map (renumbered (moved l.blocks)) (take l.term-index l.terms)
