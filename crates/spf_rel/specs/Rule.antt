-- The number rule for a whole conjunction.
use Rattle.std.specs.Prelude.{◌≡◌, ◌^◌, ◌-◌, min, ℤ, pos, if◌then◌else◌, nat_lt, Option, None, Some, Result, Ok, Err, List, ◌++◌, All, ⊤}
use Rattle.std.specs.List.{find, flat_map, sum_by}
use Rattle.spf_term.specs.Bounded.{monomials}
use Rattle.spf_term.specs.NumberRule.{excess, is_outside, numbers}
use Rattle.spf_term.specs.declared.fault.TermFault.{TermFault}
use Rattle.spf_term.specs.declared.fault.TermFault.TheVariants.{Wide, Memory}
use Rattle.spf_term.specs.declared.term.Term.{Term}
use Rattle.spf_rel.specs.declared.relation.Conj.{Conj}

-- where terms pass the number rule together: their number of monomials, if there are too many, or else the first number that is too large
abbrev pub excess_together : List Term → Option ℤ
excess_together terms =
    if nat_lt 16384 (sum_by monomials terms) then Some (pos (min (sum_by monomials terms) (2 ^ 64 - 1))) else find is_outside (flat_map numbers terms)

-- the equalities and then the inequalities
abbrev pub conj_excess : Conj → Option ℤ
conj_excess conj = excess_together (conj.equal ++ conj.least)

-- each term keeps the number rule by itself
pub record KeepsRule (conj : Conj) : Type 0 where
  pub equal : All (λ (term : Term). excess term ≡ None) conj.equal
  pub least : All (λ (term : Term). excess term ≡ None) conj.least

-- a conjunction that keeps the number rule is made, or what passes it is told
abbrev pub IsTestedTogether : Conj → Result Conj TermFault → Type 0
IsTestedTogether wanted (Ok made) = (made ≡ wanted) × (conj_excess wanted ≡ None)
IsTestedTogether wanted (Err (Wide number)) = conj_excess wanted ≡ Some number
IsTestedTogether wanted (Err Memory) = ⊤
