use Rattle.std.proofs.Common.{◌≡◌, ◌++◌, map, take}
use Rattle.spf_term.specs.Wide.{plain}
use Rattle.spf_rel.specs.Elimination.{put_oriented}
use Rattle.spf_rel.proofs.elimination.push_oriented.Given as goal

abbrev pub invariant-loop-term : goal.invariant-loop-term
invariant-loop-term l = map plain l.made ≡ map plain l.fn.made ++ map (put_oriented l.found) (take l.term-index l.terms)
