-- The rounds of simplification for the equalities of middle variables with terms, and that of an output.
use Rattle.std.proofs.Common.{◌≡◌, ◌⊎◌, inl, inr, ℕ, zero, suc, ◌+◌, ◌-◌, ◌<◌, ◌≤◌, ◌^◌, negsuc, ◌*ℤ◌, List, [], ◌∷◌, ◌++◌, false, if◌then◌else◌, None, Some, Ok, length, map, min, nat_eq, nat_lt, pos, refl, ap, ◌∙◌, arith}
use Rattle.std.proofs.lemmas.Bool.Decides.{nat_tests}
use Rattle.std.proofs.lemmas.List.Elements.{All-head, All-tail}
use Rattle.std.proofs.lemmas.List.Folds.{find-append}
use Rattle.std.proofs.lemmas.List.Sums.{sum_by-cons}
use Rattle.std.specs.List.{All, find, flat_map, sum_by}
use Rattle.std.specs.Option.{option_map, option_or}
use Rattle.std.specs.Prelude.{⊤}
use Rattle.spf_term.specs.Bounded.{monomials}
use Rattle.spf_term.specs.Equation.{difference, equation}
use Rattle.spf_term.specs.Measure.{size}
use Rattle.spf_term.specs.Normal.{normal}
use Rattle.spf_term.specs.NumberRule.{is_outside, numbers}
use Rattle.spf_term.specs.Solution.{mentions, oriented}
use Rattle.spf_term.specs.Substitution.{scaled, substituted}
use Rattle.spf_term.specs.declared.term.Atom.{Var}
use Rattle.spf_term.specs.declared.term.Term.{Term, out-Term}
use Rattle.spf_rel.specs.Graph.{AreLight, AreSmall, StayLight, alone, count_all, definitions, put_all}
use Rattle.spf_rel.specs.Renumbering.{Variables}
use Rattle.spf_rel.specs.Rule.{excess_together}
use Rattle.spf_rel.specs.Simplified.{choice, eliminated, first_choice, go_on, next, normal_conj, rounds, solved, tested}
use Rattle.spf_rel.specs.declared.relation.Conj.{Conj}
use Rattle.spf_rel.proofs.GraphLaws.{GraphLaws}
use Rattle.spf_rel.proofs.Kept.{in_term, normal_kept, of_sum, scaled_in}
use Rattle.spf_rel.proofs.Renumbered.{weaker}
use Rattle.spf_rel.proofs.Replaced.{apart, replaced, untouched}

abbrev pub equations : ℕ → List Term → List Term
equations var [] = []
equations var (term ∷ terms) = equation var term ∷ equations (var + 1) terms

append_none : (terms : List Term) → terms ++ [] ≡ terms
append_none [] = refl
append_none (term ∷ terms) = ap (λ more. term ∷ more) (append_none terms)

-- ---- variables

pub difference_kept : (P : ℕ → Type 0) (var : ℕ) (term : Term) → P var → Variables P term → Variables P (difference var term)
difference_kept P var term h k = of_sum P (record { coef = pos 1; atom = Var var } ∷ scaled (negsuc 0) (out-Term term).monos) (negsuc 0 *ℤ (out-Term term).constant) (h, scaled_in P (negsuc 0) (out-Term term).monos (in_term P term k))

module _ (out high : ℕ) where
  abbrev pub OfInputs : Term → Type 0
  OfInputs = Variables (λ number. number < out)

  -- inputs, and variables that are not yet replaced
  abbrev pub Left : ℕ → ℕ → Type 0
  Left var number = (number < out) ⊎ ((var ≤ number) × (number < high))

  never_left : (var number : ℕ) → out ≤ number → number < var → Left var number → ⊥
  never_left var number from below (inl less) = omega (arith, less, from)
  never_left var number from below (inr past) = let from' = past.0 in omega (arith, from', below)

  gone : (var number : ℕ) → Left var number → nat_eq number var ≡ false → Left (var + 1) number
  gone var number (inl less) differs = inl less
  gone var number (inr past) differs = let from = past.0 in let other : var < number = grind (arith, nat_tests) in inr (omega (arith, other), past.1)

  pub put_left : (var : ℕ) (by term : Term) → OfInputs by → Variables (Left var) term → Variables (Left (var + 1)) (substituted var (normal by) term)
  put_left var by term h k =
      replaced (Left var) (Left (var + 1)) var (gone var) (normal by)
      (weaker (λ number. number < out) (Left (var + 1)) (λ number less. inl less) (normal by) (normal_kept (λ number. number < out) by h)) term k

  pub put_all_left : (var : ℕ) (terms : List Term) (term : Term) → var + length terms ≡ high → All OfInputs terms → Variables (Left var) term → OfInputs (put_all var terms term)
  put_all_left var [] term ends each k =
      weaker (Left var) (λ number. number < out) (λ number left. elim left [
        | inl less ↦ less
        | inr past ↦ let from = past.0 in let to = past.1 in absurd (omega (arith, from, to, ends))
      ]) term k
  put_all_left var (by ∷ terms) term ends each k =
      put_all_left (var + 1) terms (substituted var (normal by) term) (omega (arith, ends)) (All-tail OfInputs by terms each) (put_left var by term (All-head OfInputs by terms each) k)

module _ (laws : GraphLaws) where
  -- ---- the number rule

  abbrev EachSmall : List Term → Type 0
  EachSmall [] = ⊤
  EachSmall (term ∷ terms) = (size term ≤ 2 ^ 62) × EachSmall terms

  no_numbers : (terms : List Term) → EachSmall terms → find is_outside (flat_map numbers terms) ≡ None
  no_numbers [] h = refl
  no_numbers (term ∷ terms) h = find-append is_outside (numbers term) (flat_map numbers terms) ∙ (λ i. option_or (laws.none term h.0 i) (no_numbers terms h.1 i))

  no_excess : (terms : List Term) → sum_by monomials terms ≤ 16384 → EachSmall terms → excess_together terms ≡ None
  no_excess terms few h =
      let test : nat_lt 16384 (sum_by monomials terms) ≡ false = grind (arith, nat_tests) in
      ap (λ many. if many then Some (pos (min (sum_by monomials terms) (2 ^ 64 - 1))) else find is_outside (flat_map numbers terms)) test ∙ no_numbers terms h

  -- of what is made of each variable and its term
  module _ (make : ℕ → Term → Term) (counts : (var : ℕ) (term : Term) → monomials (make var term) ≤ 1 + monomials term) (sizes : (var : ℕ) (term : Term) → size (make var term) ≤ 1 + size term) where
    abbrev makes : ℕ → List Term → ℕ → Term → List Term
    makes var [] last term = make last term ∷ []
    makes var (by ∷ terms) last term = make var by ∷ makes (var + 1) terms last term

    made_few : (var : ℕ) (terms : List Term) (last : ℕ) (term : Term) → sum_by monomials (makes var terms last term) ≤ count_all (terms ++ term ∷ [])
    made_few var [] last term = let is = sum_by-cons monomials (make last term) [] in let less = counts last term in omega (arith, is, less)
    made_few var (by ∷ terms) last term =
        let is = sum_by-cons monomials (make var by) (makes (var + 1) terms last term) in
        let less = counts var by in
        let more = made_few (var + 1) terms last term in
        omega (arith, is, less, more)

    made_small : (var : ℕ) (terms : List Term) (last : ℕ) (term : Term) → AreSmall (terms ++ term ∷ []) → EachSmall (makes var terms last term)
    made_small var [] last term h = (let less = sizes last term in omega (arith, less, h.0), tt)
    made_small var (by ∷ terms) last term h = (let less = sizes var by in omega (arith, less, h.0), made_small (var + 1) terms last term h.1)

    made_light : (var : ℕ) (terms : List Term) (last : ℕ) (term : Term) → AreLight (terms ++ term ∷ []) → excess_together (makes var terms last term) ≡ None
    made_light var terms last term h = no_excess (makes var terms last term) (let less = made_few var terms last term in omega (arith, less, h.few)) (made_small var terms last term h.small)

  abbrev given : ℕ → List Term → ℕ → Term → List Term
  given = makes difference laws.difference_count laws.difference_size

  abbrev staged : ℕ → List Term → ℕ → Term → List Term
  staged = makes equation laws.equation_count laws.equation_size

  -- ---- one round after another

  light_now : (var : ℕ) (terms : List Term) (term : Term) → StayLight var terms term → AreLight (terms ++ term ∷ [])
  light_now var [] term h = h
  light_now var (by ∷ terms) term h = h.0

  module _ (out high : ℕ) where
    abbrev pub conj_of : ℕ → List Term → Conj
    conj_of inner equal = record { inner = inner; equal = equal; least = [] }

    none_of_left : (var number : ℕ) (term : Term) → out ≤ number → number < var → Variables (Left out high var) term → mentions number (normal term) ≡ false
    none_of_left var number term from below k = apart (Left out high var) number (never_left out high var number from below) (normal term) (normal_kept (Left out high var) term k)

    none_of_inputs : (number : ℕ) (term : Term) → out ≤ number → OfInputs out high term → mentions number (normal term) ≡ false
    none_of_inputs number term from h = apart (λ other. other < out) number (λ less. omega (arith, less, from)) (normal term) (normal_kept (λ other. other < out) term h)

    -- the others stay, and the last one gets the solution
    put_equations : (var from : ℕ) (by : Term) (terms : List Term) (term : Term) → out < var → var < from → OfInputs out high by → All (OfInputs out high) terms → Variables (Left out high var) term
        → map (λ (each : Term). oriented (normal each)) (map (substituted var (normal by)) (staged from terms out term)) ≡ staged from terms out (substituted var (normal by) term)
    put_equations var from by [] term past before h each k =
        let differs : nat_eq out var ≡ false = grind (arith, nat_tests) in
        let none = none_of_left (var + 1) out (substituted var (normal by) term) (omega arith) (omega (arith, past)) (put_left out high var by term h k) in
        ap (λ (of : Term). of ∷ []) (laws.kept var out (normal by) term differs none)
    put_equations var from by (first ∷ terms) term past before h each k =
        let differs : nat_eq from var ≡ false = grind (arith, nat_tests) in
        let is_first = All-head (OfInputs out high) first terms each in
        let same : substituted var (normal by) first ≡ first = untouched (λ number. number < out) var (λ less. omega (arith, less, past)) (normal by) first is_first in
        let none = none_of_inputs from first (omega (arith, past, before)) is_first in
        let here = laws.kept var from (normal by) first differs (ap (λ of. mentions from (normal of)) same ∙ none) ∙ ap (equation from) same in
        λ i. here i ∷ put_equations var (from + 1) by terms term past (omega (arith, before)) h (All-tail (OfInputs out high) first terms each) k i

    all_rounds : (inner var : ℕ) (terms : List Term) (term : Term) → out < var → high ≡ out + 1 + inner → var + length terms ≡ high → All (OfInputs out high) terms → Variables (Left out high var) term → StayLight var terms term
        → rounds (suc (length terms)) (out + 1) (conj_of inner (staged var terms out term)) ≡ Ok (alone inner out (put_all var terms term))
    all_rounds inner var [] term past is_high ends each k light =
        let conj = conj_of inner (staged var [] out term) in
        let passes = ap excess_together (append_none (staged var [] out term)) ∙ made_light equation laws.equation_count laws.equation_size var [] out term light in
        let none = laws.unsolved (out + 1) (out + 1 + inner) out term (omega arith)
        (λ number from to. none_of_left var number term (omega (arith, from)) (omega (arith, to, ends, is_high)) k) in
        ap (λ test. tested test (go_on conj (next (out + 1) conj) (rounds zero (out + 1)))) passes
        ∙ ap (λ found. go_on conj (option_map (eliminated conj) (first_choice found [] None)) (rounds zero (out + 1))) none
    all_rounds inner var (by ∷ terms) term past is_high ends each k light =
        let conj = conj_of inner (staged var (by ∷ terms) out term) in
        let is_by = All-head (OfInputs out high) by terms each in
        let passes = ap excess_together (append_none (staged var (by ∷ terms) out term)) ∙ made_light equation laws.equation_count laws.equation_size var (by ∷ terms) out term light.0 in
        let found = laws.solved (out + 1) (out + 1 + inner) var by (omega (arith, past)) (omega (arith, ends, is_high))
        (λ number from to. none_of_inputs number by (omega (arith, from)) is_by) in
        ap (λ test. tested test (go_on conj (next (out + 1) conj) (rounds (suc (length terms)) (out + 1)))) passes
        ∙ ap (λ first. go_on conj (option_map (eliminated conj) (first_choice first (staged (var + 1) terms out term) (choice (out + 1) (out + 1 + inner) (equation var by ∷ []) (staged (var + 1) terms out term)))) (rounds (suc (length terms)) (out + 1))) found
        ∙ ap (λ equal. rounds (suc (length terms)) (out + 1) (conj_of inner equal)) (put_equations var (var + 1) by terms term past (omega arith) is_by (All-tail (OfInputs out high) by terms each) k)
        ∙ all_rounds inner (var + 1) terms (substituted var (normal by) term) (omega (arith, past)) is_high (omega (arith, ends)) (All-tail (OfInputs out high) by terms each) (put_left out high var by term is_by k) light.1

    -- ---- from the equalities as they are given

    normal_given : (var : ℕ) (terms : List Term) (term : Term) → map (λ (each : Term). oriented (normal each)) (given var terms out term) ≡ staged var terms out term
    normal_given var [] term = refl
    normal_given var (by ∷ terms) term = ap (λ more. equation var by ∷ more) (normal_given (var + 1) terms term)

    given_length : (var : ℕ) (terms : List Term) (term : Term) → length (given var terms out term) ≡ suc (length terms)
    given_length var [] term = refl
    given_length var (by ∷ terms) term = ap suc (given_length (var + 1) terms term)

    given_is : (var : ℕ) (terms : List Term) (term : Term) → definitions var terms ++ difference out term ∷ [] ≡ given var terms out term
    given_is var [] term = refl
    given_is var (by ∷ terms) term = ap (λ more. difference var by ∷ more) (given_is (var + 1) terms term)

    pub conj_solved : (inner var : ℕ) (terms : List Term) (term : Term) → out < var → high ≡ out + 1 + inner → var + length terms ≡ high → All (OfInputs out high) terms → Variables (Left out high var) term → StayLight var terms term
        → solved (out + 1) (conj_of inner (definitions var terms ++ difference out term ∷ [])) ≡ Ok (alone inner out (put_all var terms term))
    conj_solved inner var terms term past is_high ends each k light =
        let passes = ap excess_together (append_none (given var terms out term)) ∙ made_light difference laws.difference_count laws.difference_size var terms out term (light_now var terms term light) in
        ap (λ equal. solved (out + 1) (conj_of inner equal)) (given_is var terms term)
        ∙ ap (λ test. tested test (rounds (length (given var terms out term)) (out + 1) (normal_conj (conj_of inner (given var terms out term))))) passes
        ∙ (λ i. rounds (given_length var terms term i) (out + 1) (conj_of inner (normal_given var terms term i)))
        ∙ all_rounds inner var terms term past is_high ends each k light
