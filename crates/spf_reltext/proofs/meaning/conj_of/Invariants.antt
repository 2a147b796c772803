use Rattle.std.proofs.Common.{◌≡◌, flat_map, take}
use Rattle.spf_reltext.specs.Resolved.{equal_terms, least_terms}
use Rattle.spf_reltext.specs.Rules.{variables}
use Rattle.spf_reltext.proofs.meaning.conj_of.Given as goal

abbrev pub invariant-loop-constraint : goal.invariant-loop-constraint
invariant-loop-constraint l =
    let constraints = take l.constraint-index l.literal.constraints in
    (l.equal ≡ flat_map (equal_terms (variables l.literal) l.names) constraints) × (l.least ≡ flat_map (least_terms (variables l.literal) l.names) constraints)
