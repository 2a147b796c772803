use Rattle.std.proofs.Common.{◌≡◌, map, take}
use Rattle.spf_reltext.specs.Resolved.{conj_of}
use Rattle.spf_reltext.proofs.meaning.conjs_of.Given as goal

abbrev pub invariant-loop-literal : goal.invariant-loop-literal
invariant-loop-literal l = l.conjs ≡ map (conj_of l.names) (take l.literal-index l.literals)
