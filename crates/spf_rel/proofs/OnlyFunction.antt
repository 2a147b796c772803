-- The one outcome of `as_function` for a composition of graphs.
use Rattle.std.proofs.Common.{◌≡◌, inl, inr, ℕ, ◌+◌, ◌-◌, ◌<◌, ◌≤◌, ◌^◌, List, [], ◌∷◌, ◌++◌, Option, None, Some, Result, Ok, Err, Bool, false, true, if◌then◌else◌, length, min, nat_lt, pos, ap, sym, ◌∙◌, arith}
use Rattle.std.proofs.lemmas.Bool.Decides.{nat_tests}
use Rattle.std.proofs.lemmas.List.Elements.{All-cons, All-nil}
use Rattle.std.proofs.lemmas.List.Folds.{find-append, list_any_none}
use Rattle.std.proofs.lemmas.List.Sums.{sum_by-cons}
use Rattle.std.specs.List.{find, flat_map, list_any, sum_by}
use Rattle.std.specs.Option.{option_or}
use Rattle.spf_term.specs.Bounded.{monomials}
use Rattle.spf_term.specs.Measure.{size}
use Rattle.spf_term.specs.Normal.{normal}
use Rattle.spf_term.specs.NumberRule.{is_outside, numbers}
use Rattle.spf_term.specs.Substitution.{substituted}
use Rattle.spf_term.specs.declared.fault.TermFault.{TermFault}
use Rattle.spf_term.specs.declared.fault.TermFault.TheVariants.{Wide, Memory}
use Rattle.spf_term.specs.declared.term.Term.{Term}
use Rattle.spf_rel.specs.Function.{HasOutcome, IsFunction, assigned, begun, find_on, function_of, mentions_from, only_inputs, outputs_found}
use Rattle.spf_rel.specs.Graph.{AreLight, Compose, IsOnly, StayLight, alone, composed_term, graph, put_all, shifted}
use Rattle.spf_rel.specs.Operations.{compose}
use Rattle.spf_rel.specs.Renumbering.{Variables}
use Rattle.spf_rel.specs.Rule.{excess_together}
use Rattle.spf_rel.specs.Simplified.{Choice, IsSimplification, all_solved, choice, tested}
use Rattle.spf_rel.specs.declared.relation.Conj.{Conj}
use Rattle.spf_rel.specs.declared.relation.Rel.{Rel}
use Rattle.spf_rel.proofs.Mentioning.{none_from}

-- what is left in the end is light
last_light : (var : ℕ) (terms : List Term) (term : Term) → StayLight var terms term → AreLight (put_all var terms term ∷ [])
last_light var [] term h = h
last_light var (by ∷ terms) term h = last_light (var + 1) terms (substituted var (normal by) term) h.1

one_keeps : (term : Term) → monomials term ≤ 16384 → find is_outside (numbers term) ≡ None → excess_together (term ∷ []) ≡ None
one_keeps term few none =
    let sum = sum_by-cons monomials term [] in
    let test : nat_lt 16384 (sum_by monomials (term ∷ [])) ≡ false = grind (arith, nat_tests) in
    ap (λ many. if many then Some (pos (min (sum_by monomials (term ∷ [])) (2 ^ 64 - 1))) else find is_outside (flat_map numbers (term ∷ []))) test
    ∙ find-append is_outside (numbers term) [] ∙ ap (λ first. option_or first None) none

module _ (ins : ℕ) (terms : List Term) (last : Term) where
  abbrev composition : Rel
  composition = compose (graph (length terms) (last ∷ [])) (graph ins terms)

  abbrev one : Conj
  one = alone 0 ins (composed_term ins terms last)

  abbrev pub by : Term
  by = normal (composed_term ins terms last)

  abbrev solution : Choice
  solution = record { found = record { var = ins; by = by }; others = [] }

  -- what the laws tell of the composition
  pub record Composed : Type 0 where
    pub solved : all_solved (ins + 1) composition.conjs ≡ Ok (alone (length terms) ins (composed_term ins terms last) ∷ [])
    pub simplified : (made : List Conj) → IsSimplification (ins + 1) composition.conjs made → made ≡ one ∷ []
    pub chosen : choice ins (ins + 1) [] one.equal ≡ Some solution
    pub inputs : Variables (λ number. number < ins) by
    pub fewer : monomials by ≤ monomials (composed_term ins terms last)
    pub smaller : size by ≤ size (composed_term ins terms last)
    pub none : size by ≤ 2 ^ 62 → find is_outside (numbers by) ≡ None

  module _ (h : Compose ins terms last) (laws : Composed) where
    keeps : excess_together (by ∷ []) ≡ None
    keeps =
        let light = last_light (ins + 1) terms (shifted (ins + 1) last) h.light in
        let few = light.few in
        let small = light.small.0 in
        let fewer = laws.fewer in
        let smaller = laws.smaller in
        one_keeps by (omega (arith, few, fewer)) (laws.none (omega (arith, small, smaller)))

    function : function_of ins 1 (one ∷ []) ≡ Ok (Some (by ∷ []))
    function =
        let other : list_any (mentions_from ins) (by ∷ []) ≡ false = list_any_none (mentions_from ins) (by ∷ [])
        (All-cons (λ term. mentions_from ins term ≡ false) by [] (none_from ins by laws.inputs) (All-nil (λ term. mentions_from ins term ≡ false))) in
        ap (λ first. only_inputs ins (find_on (begun one) first (outputs_found 0 (ins + 1)))) laws.chosen
        ∙ ap (λ test. only_inputs ins (tested test (outputs_found 0 (ins + 1) (assigned solution (begun one))))) keeps
        ∙ ap (λ is. if is then Ok None else Ok (Some (by ∷ []))) other

    outcome : (wanted : _) → HasOutcome composition wanted → wanted ≡ Ok (Some (by ∷ []))
    outcome wanted is = sym is.outcome ∙ ap (function_of ins 1) (laws.simplified is.simplified is.is) ∙ function

    pub only : (made : Result (Option (List Term)) TermFault) → IsFunction composition made → IsOnly by made
    only (Ok found) is = let same = outcome (Ok found) is in cc
    only (Err (Wide number)) (inl is) = let same = sym is ∙ laws.solved in cc
    only (Err (Wide number)) (inr is) = let same = outcome (Err number) is in cc
    only (Err Memory) is = tt
