-- What the steps of a function tell, put together.
use Rattle.std.proofs.Common.{◌≡◌, inl, inr, ℕ, ◌+◌, ◌<◌, ◌^◌, ℤ, List, Bool, true, false, if◌then◌else◌, Option, None, Some, Result, Ok, Err, IfOk, ap, sym, ◌∙◌, subst}
use Rattle.std.specs.List.{All, list_any}
use Rattle.spf_term.specs.declared.fault.TermFault.{TermFault}
use Rattle.spf_term.specs.declared.fault.TermFault.TheVariants.{Wide, Memory}
use Rattle.spf_term.specs.declared.term.Term.{Term}
use Rattle.spf_rel.specs.Function.{AreFound, AreOfInputs, GiveOutputs, HasOutcome, IsFunction, Tells, begun, function_of_one, mentions_from, only_inputs, outputs_found, single}
use Rattle.spf_rel.specs.Meaning.{IsFormedRel}
use Rattle.spf_rel.specs.Simplified.{IsSimplification, IsSimplified}
use Rattle.spf_rel.specs.declared.relation.Conj.{Conj}
use Rattle.spf_rel.specs.declared.relation.Rel.{Rel}
use Rattle.spf_rel.proofs.Giving.{inputs_alone, outcome_gives}
use Rattle.spf_rel.proofs.Laws.{Laws}

-- ---- one conjunction

module _ (ins outs : ℕ) (conj : Conj) where
  abbrev found : Result (Option (List Term)) ℤ
  found = outputs_found outs ins (begun conj)

  pub inner_left : (terms : List Term) → found ≡ Ok (Some terms) → list_any (mentions_from ins) terms ≡ true → function_of_one ins outs (Some conj) ≡ Ok None
  inner_left terms is any = ap (only_inputs ins) is ∙ ap (λ test. if test then Ok None else Ok (Some terms)) any

  pub none_left : (terms : List Term) → found ≡ Ok (Some terms) → list_any (mentions_from ins) terms ≡ false → function_of_one ins outs (Some conj) ≡ Ok (Some terms)
  none_left terms is none = ap (only_inputs ins) is ∙ ap (λ test. if test then Ok None else Ok (Some terms)) none

  pub not_solved : found ≡ Ok None → function_of_one ins outs (Some conj) ≡ Ok None
  not_solved is = ap (only_inputs ins) is

  pub too_wide : (fault : TermFault) → Tells found (Err fault) → Tells (function_of_one ins outs (Some conj)) (Err fault)
  too_wide (Wide number) is = ap (only_inputs ins) is
  too_wide Memory is = tt

  pub of_inputs : (terms : List Term) → found ≡ Ok (Some terms) → list_any (mentions_from ins) terms ≡ false → AreFound outs (Some terms) → AreOfInputs ins outs terms
  of_inputs terms is none h = record { count = h.0; inputs = inputs_alone ins outs conj terms (record { found = is; none = none }); ready = h.1 }

-- ---- a relation

module _ (r : Rel) where
  pub simplify_told : (fault : TermFault) → IsSimplified r (Err fault) → IsFunction r (Err fault)
  simplify_told (Wide number) is = inl is
  simplify_told Memory is = tt

  module _ (made : List Conj) (is : IsSimplification (r.ins + r.outs) r.conjs made) where
    pub not_single : single made ≡ None → IsFunction r (Ok None)
    not_single none = record { simplified = made; is = is; outcome = ap (function_of_one r.ins r.outs) none }

    pub single_told : (conj : Conj) → single made ≡ Some conj → (result : Result (Option (List Term)) TermFault) → Tells (function_of_one r.ins r.outs (Some conj)) result → IsFunction r result
    single_told conj some (Ok given) h = record { simplified = made; is = is; outcome = ap (function_of_one r.ins r.outs) some ∙ h }
    single_told conj some (Err (Wide number)) h = inr (record { simplified = made; is = is; outcome = ap (function_of_one r.ins r.outs) some ∙ h })
    single_told conj some (Err Memory) h = tt

  pub function_gives : Laws → IsFormedRel r → (result : Result (Option (List Term)) TermFault) → IsFunction r result → IfOk result (GiveOutputs r)
  function_gives laws formed (Ok None) h = tt
  function_gives laws formed (Ok (Some terms)) h = outcome_gives laws r formed terms h
  function_gives laws formed (Err fault) h = tt
