use Rattle.std.proofs.Common.{◌≡◌, map, take}
use Rattle.spf_term.specs.Normal.{normal}
use Rattle.spf_term.specs.Solution.{oriented}
use Rattle.spf_term.specs.Wide.{plain}
use Rattle.spf_term.specs.declared.term.Term.{Term}
use Rattle.spf_rel.proofs.normal_terms.normal_equalities.Given as goal

abbrev pub invariant-loop-term : goal.invariant-loop-term
invariant-loop-term l = map plain l.made ≡ map (λ (term : Term). oriented (normal term)) (take l.term-index l.terms)
