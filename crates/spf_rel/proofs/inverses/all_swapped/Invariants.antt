use Rattle.std.proofs.Common.{◌≡◌, map, take}
use Rattle.spf_rel.specs.Operations.{swapped}
use Rattle.spf_rel.proofs.inverses.all_swapped.Given as goal

abbrev pub invariant-loop-conj : goal.invariant-loop-conj
invariant-loop-conj l = l.made ≡ map (swapped l.ins l.outs) (take l.conj-index l.conjs)
