-- The number rule on what is left and the results together: how many monomials there are, and the first number that is too large.
use Rattle.std.proofs.Common.{◌≡◌, ℕ, ◌+◌, ◌-◌, ◌<◌, ◌≤◌, ◌^◌, ℤ, pos, List, [], ◌∷◌, ◌++◌, true, false, if◌then◌else◌, Option, None, Some, Result, Ok, Err, nat_lt, map, min, refl, ap, sym, ◌∙◌, arith, append-nil}
use Rattle.std.proofs.lemmas.Bool.Decides.{nat_tests}
use Rattle.std.proofs.lemmas.Grind.{flat_map-append}
use Rattle.std.proofs.lemmas.List.Concat.{flat_map-cons}
use Rattle.std.proofs.lemmas.List.Folds.{find-append}
use Rattle.std.proofs.lemmas.List.Sums.{sum_by-append, sum_by-cons}
use Rattle.std.specs.List.{flat_map, sum_by}
use Rattle.std.specs.Option.{option_or}
use Rattle.spf_term.specs.Bounded.{monomials}
use Rattle.spf_term.specs.NumberRule.{excess, is_outside, numbers}
use Rattle.spf_term.specs.Wide.{IsNarrowed, plain}
use Rattle.spf_term.specs.declared.fault.TermFault.{TermFault}
use Rattle.spf_term.specs.declared.fault.TermFault.TheVariants.{Wide, Memory}
use Rattle.spf_term.specs.declared.term.Term.{Term}
use Rattle.spf_term.specs.declared.wide.WideTerm.{WideTerm}
use Rattle.spf_rel.specs.Function.{IsTestedPartly}
use Rattle.spf_rel.specs.Rule.{excess_together}
use Rattle.spf_rel.specs.declared.partly.Partly.{Partly}
use Rattle.spf_rel.proofs.SmallTerms.{few_and_small}
use Rattle.spf_rel.proofs.Together.{outside, sum_of_map, wide_numbers}

-- ---- any terms

module _ (terms : List Term) (count : ℕ) (is : count ≡ min (sum_by monomials terms) (2 ^ 64 - 1)) where
  abbrev total : ℕ
  total = sum_by monomials terms

  pub many_told : 16384 < count → excess_together terms ≡ Some (pos count)
  many_told many =
      let test : nat_lt 16384 total ≡ true = grind (arith, nat_tests) in
      ap (λ more. if more then Some (pos (min total (2 ^ 64 - 1))) else outside (flat_map numbers terms)) test ∙ ap (λ number. Some (pos number)) (sym is)

  few_told : count ≤ 16384 → excess_together terms ≡ outside (flat_map numbers terms)
  few_told few =
      let low : total ≤ 16384 = omega (arith, is, few) in
      let test : nat_lt 16384 total ≡ false = grind (arith, nat_tests) in
      ap (λ more. if more then Some (pos (min total (2 ^ 64 - 1))) else outside (flat_map numbers terms)) test

module _ (wanted : Partly) (count : ℕ) (is : count ≡ min (sum_by monomials (wanted.equal ++ (wanted.least ++ wanted.results))) (2 ^ 64 - 1)) (few : count ≤ 16384) where
  abbrev all : List Term
  all = wanted.equal ++ (wanted.least ++ wanted.results)

  pub tested_as : (result : Result Partly TermFault) → IsNarrowed (flat_map numbers all) wanted result → IsTestedPartly wanted result
  tested_as (Ok made) h = (h.0, few_told all count is few ∙ h.1)
  tested_as (Err (Wide number)) h = few_told all count is few ∙ h
  tested_as (Err Memory) h = tt

-- ---- wide terms, and a last one that keeps the rule

abbrev wide : List WideTerm → List ℤ
wide terms = flat_map (λ (term : WideTerm). numbers (plain term)) terms

in_front : (front : List WideTerm) (rest : List Term) → outside (flat_map numbers (map plain front ++ rest)) ≡ option_or (outside (wide front)) (outside (flat_map numbers rest))
in_front front rest =
    ap outside (flat_map-append numbers (map plain front) rest) ∙ find-append is_outside (flat_map numbers (map plain front)) (flat_map numbers rest)
    ∙ ap (λ of. option_or (outside of) (outside (flat_map numbers rest))) (wide_numbers front)

module _ (equal least results : List WideTerm) (last : Term) where
  abbrev found : List Term
  found = map plain results ++ last ∷ []

  abbrev rest : List Term
  rest = map plain least ++ found

  pub first_refused : (number : ℤ) → outside (wide equal) ≡ Some number → outside (flat_map numbers (map plain equal ++ rest)) ≡ Some number
  first_refused number is = in_front equal rest ∙ ap (λ of. option_or of (outside (flat_map numbers rest))) is

  module _ (first : outside (wide equal) ≡ None) where
    past_first : outside (flat_map numbers (map plain equal ++ rest)) ≡ option_or (outside (wide least)) (outside (flat_map numbers found))
    past_first = in_front equal rest ∙ ap (λ of. option_or of (outside (flat_map numbers rest))) first ∙ in_front least found

    pub second_refused : (number : ℤ) → outside (wide least) ≡ Some number → outside (flat_map numbers (map plain equal ++ rest)) ≡ Some number
    second_refused number is = past_first ∙ ap (λ of. option_or of (outside (flat_map numbers found))) is

    module _ (second : outside (wide least) ≡ None) where
      past_second : outside (flat_map numbers (map plain equal ++ rest)) ≡ option_or (outside (wide results)) (outside (flat_map numbers (last ∷ [])))
      past_second = past_first ∙ ap (λ of. option_or of (outside (flat_map numbers found))) second ∙ in_front results (last ∷ [])

      pub third_refused : (number : ℤ) → outside (wide results) ≡ Some number → outside (flat_map numbers (map plain equal ++ rest)) ≡ Some number
      third_refused number is = past_second ∙ ap (λ of. option_or of (outside (flat_map numbers (last ∷ [])))) is

      pub none_refused : outside (wide results) ≡ None → excess last ≡ None → outside (flat_map numbers (map plain equal ++ rest)) ≡ None
      none_refused third keeps =
          past_second ∙ ap (λ of. option_or of (outside (flat_map numbers (last ∷ [])))) third ∙ ap outside (flat_map-cons numbers last [] ∙ append-nil (numbers last)) ∙ (few_and_small last keeps).1

  pub counted : (a b c d one two count : ℕ) → a ≡ min (sum_by (λ (term : WideTerm). monomials (plain term)) equal) (2 ^ 64 - 1) → b ≡ min (sum_by (λ (term : WideTerm). monomials (plain term)) least) (2 ^ 64 - 1)
      → c ≡ min (sum_by (λ (term : WideTerm). monomials (plain term)) results) (2 ^ 64 - 1) → d ≡ min (monomials last) (2 ^ 64 - 1)
      → one ≡ min (a + b) (2 ^ 64 - 1) → two ≡ min (c + d) (2 ^ 64 - 1) → count ≡ min (one + two) (2 ^ 64 - 1) → count ≡ min (sum_by monomials (map plain equal ++ rest)) (2 ^ 64 - 1)
  counted a b c d one two count is_a is_b is_c is_d is_one is_two is =
      let all = sum_by-append monomials (map plain equal) rest in
      let more = sum_by-append monomials (map plain least) found in
      let end = sum_by-append monomials (map plain results) (last ∷ []) in
      let only = sum_by-cons monomials last [] in
      let e = sum_of_map monomials plain equal in
      let l = sum_of_map monomials plain least in
      let r = sum_of_map monomials plain results in
      omega (arith, all, more, end, only, e, l, r, is_a, is_b, is_c, is_d, is_one, is_two, is)
