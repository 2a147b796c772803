use Rattle.std.proofs.Common.{◌≡◌, ◌++◌, take}
use Rattle.spf_rel.proofs.unions.push_copies.Given as goal

abbrev pub invariant-loop-conj : goal.invariant-loop-conj
invariant-loop-conj l = l.made ≡ l.fn.made ++ take l.conj-index l.conjs
