use Rattle.std.proofs.Common.{◌≡◌, take}
use Rattle.spf_rel.specs.Join.{joined_all}
use Rattle.spf_rel.proofs.join.joined_all.Given as goal

abbrev pub invariant-loop-left : goal.invariant-loop-left
invariant-loop-left l = l.made ≡ joined_all l.join (take l.left-index l.lefts) l.rights
