use Rattle.std.proofs.Common.{◌≡◌, ◌++◌, map, take}
use Rattle.spf_term.specs.Wide.{plain}
use Rattle.spf_rel.specs.Elimination.{put}
use Rattle.spf_rel.proofs.elimination.push_put.Given as goal

abbrev pub invariant-loop-term : goal.invariant-loop-term
invariant-loop-term l = map plain l.made ≡ map plain l.fn.made ++ map (put l.found) (take l.term-index l.terms)
