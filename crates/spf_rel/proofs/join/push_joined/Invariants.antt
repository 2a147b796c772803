use Rattle.std.proofs.Common.{◌≡◌, ◌++◌, map, take}
use Rattle.spf_rel.specs.Join.{joined}
use Rattle.spf_rel.proofs.join.push_joined.Given as goal

abbrev pub invariant-loop-right : goal.invariant-loop-right
invariant-loop-right l = l.made ≡ l.fn.made ++ map (joined l.join l.left) (take l.right-index l.rights)
