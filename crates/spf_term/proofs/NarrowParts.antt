-- The numbers of a wide term, said of its monomials as lists.
use Rattle.std.proofs.Common.{◌≡◌, ℕ, ◌+◌, ◌<◌, ◌≤◌, ℤ, List, [], ◌∷◌, length, get_or, drop, take, map, ap, sym, ◌∙◌, Some, None, Err}
use Rattle.std.proofs.lemmas.List.{drop_all, take_all}
use Rattle.std.proofs.lemmas.List.Folds.{find-append}
use Rattle.std.specs.List.{find}
use Rattle.std.specs.Option.{option_or}
use Rattle.spf_term.specs.Bounded.{monomials}
use Rattle.spf_term.specs.NumberRule.{is_outside, mono_numbers, numbers}
use Rattle.spf_term.specs.Wide.{IsNarrowed, plain, plain_mono}
use Rattle.spf_term.specs.declared.fault.TermFault.{TermFault}
use Rattle.spf_term.specs.declared.fault.TermFault.TheVariants.{Wide, Memory}
use Rattle.spf_term.specs.declared.term.Mono.{Mono}
use Rattle.spf_term.specs.declared.wide.WideMono.{WideMono}
use Rattle.spf_term.specs.declared.wide.WideTerm.{WideTerm, out-WideTerm}
use Rattle.spf_term.proofs.Monos.{drop_next}
use Rattle.spf_term.proofs.Numbers.{list_monomials, list_numbers, monomials_are, numbers_are}
use Rattle.spf_term.proofs.Wides.{plain_constant_is, plain_is, plain_monos_are, sum_of}

pub wide_monomials_are : (term : WideTerm) → monomials (plain term) ≡ list_monomials (map plain_mono (out-WideTerm term).monos)
wide_monomials_are term = monomials_are (plain term) ∙ ap list_monomials (plain_monos_are term)

pub wide_numbers_are : (term : WideTerm) → numbers (plain term) ≡ list_numbers (map plain_mono (out-WideTerm term).monos) (out-WideTerm term).constant
wide_numbers_are term = numbers_are (plain term) ∙ (λ i. list_numbers (plain_monos_are term i) (plain_constant_is term i))

-- ---- at a place of a list

module _ (monos : List WideMono) (index : ℕ) (mono : WideMono) (inside : index < length monos) (at : mono ≡ get_or monos index mono) (constant : ℤ) where
  abbrev rest : List ℤ
  rest = list_numbers (map plain_mono (drop (index + 1) monos)) constant

  split_here : find is_outside (list_numbers (map plain_mono (drop index monos)) constant) ≡ option_or (find is_outside (mono_numbers (plain_mono mono))) (find is_outside rest)
  split_here = ap (λ of. find is_outside (list_numbers (map plain_mono of) constant)) (drop_next monos index mono inside at) ∙ find-append is_outside (mono_numbers (plain_mono mono)) rest

  pub found_here : (number : ℤ) → find is_outside (mono_numbers (plain_mono mono)) ≡ Some number → find is_outside (list_numbers (map plain_mono (drop index monos)) constant) ≡ Some number
  found_here number is = split_here ∙ ap (λ found. option_or found (find is_outside rest)) is

  pub not_here : find is_outside (mono_numbers (plain_mono mono)) ≡ None → find is_outside (list_numbers (map plain_mono (drop index monos)) constant) ≡ find is_outside rest
  not_here is = split_here ∙ ap (λ found. option_or found (find is_outside rest)) is

-- ---- what is told of a fault

-- where a part has a number that is too large, the whole has it first
pub whole_refused : {A B : Type 0} (part whole : List ℤ) (made : A) (wanted : B) (fault : TermFault) → ((number : ℤ) → find is_outside part ≡ Some number → find is_outside whole ≡ Some number) → IsNarrowed part made (Err fault) → IsNarrowed whole wanted (Err fault)
whole_refused part whole made wanted (Wide number) leads is = leads number is
whole_refused part whole made wanted Memory leads is = tt

-- behind the last of its monomials
module _ (term : WideTerm) (monos : List WideMono) (are : monos ≡ (out-WideTerm term).monos) (index : ℕ) (past : length monos ≤ index) where
  pub last_number : find is_outside (list_numbers (map plain_mono (drop index monos)) (out-WideTerm term).constant) ≡ find is_outside (numbers (plain term)) → find is_outside ((out-WideTerm term).constant ∷ []) ≡ find is_outside (numbers (plain term))
  last_number rest = ap (λ of. find is_outside (list_numbers (map plain_mono of) (out-WideTerm term).constant)) (sym (drop_all index monos past)) ∙ rest

  pub all_made : (made : List Mono) (constant : ℤ) → made ≡ map plain_mono (take index monos) → constant ≡ (out-WideTerm term).constant → sum_of made constant ≡ plain term
  all_made made constant is same = (λ i. sum_of ((is ∙ ap (map plain_mono) (take_all index monos past ∙ are)) i) (same i)) ∙ sym (plain_is term)
