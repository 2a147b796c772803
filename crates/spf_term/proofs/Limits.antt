-- Terms none of whose numbers is too large, and how large index expressions of a kernel are.
use Rattle.std.proofs.Common.{◌≡◌, ℕ, ◌+◌, ◌*◌, ◌≤◌, ◌^◌, ℤ, List, [], ◌∷◌, ◌++◌, false, if◌then◌else◌, None, Some, unsigned_abs, refl, ap, ◌∙◌, arith}
use Rattle.std.proofs.lemmas.Bool.Decides.{nat_tests}
use Rattle.std.proofs.lemmas.List.Folds.{find-append}
use Rattle.std.specs.List.{find}
use Rattle.std.specs.Option.{option_or}
use Rattle.spf_term.specs.Bounded.{AtomHasSmallNumbers, HasSmallNumbers, HaveSmallNumbers, IsBounded, atom_monomials, monomials, sum_monomials}
use Rattle.spf_term.specs.Measure.{atom_measured, by_factor, by_size, measured, size, sum_measured}
use Rattle.spf_term.specs.NumberRule.{atom_numbers, is_outside, numbers, sum_numbers}
use Rattle.spf_term.specs.declared.term.Atom.{Atom, Var, Param, App}
use Rattle.spf_term.specs.declared.term.Term.{Term, Term', Row_of-Mono, end_of-Mono, more_of-Mono}

-- ---- no number is too large

abbrev limit : ℕ
limit = 2 ^ 62

inside : (number : ℤ) → unsigned_abs number ≤ limit → is_outside number ≡ false
inside number less = grind (arith, nat_tests)

first_none : (number : ℤ) (rest : List ℤ) → unsigned_abs number ≤ limit → find is_outside rest ≡ None → find is_outside (number ∷ rest) ≡ None
first_none number rest less none = ap (λ test. if test then Some number else find is_outside rest) (inside number less) ∙ none

both_none : (front back : List ℤ) → find is_outside front ≡ None → find is_outside back ≡ None → find is_outside (front ++ back) ≡ None
both_none front back a b = find-append is_outside front back ∙ (λ i. option_or (a i) (b i))

mutual
  none_in_atom : (atom : Atom) → atom_measured by_size atom ≤ limit → find is_outside (atom_numbers atom) ≡ None
  none_in_atom (Var number) less = refl
  none_in_atom (Param number) less = refl
  none_in_atom (App fun arg) less = none_outside arg less

  none_in_row : {n : _} (row : Row_of-Mono n) → sum_measured by_size row ≤ limit → find is_outside (sum_numbers row) ≡ None
  none_in_row end_of-Mono less = refl
  none_in_row (more_of-Mono coef atom others) less =
      both_none (coef ∷ atom_numbers atom) (sum_numbers others) (first_none coef (atom_numbers atom) (omega (arith, less)) (none_in_atom atom (omega (arith, less)))) (none_in_row others (omega (arith, less)))

  pub none_outside : (term : Term) → size term ≤ limit → find is_outside (numbers term) ≡ None
  none_outside (Term' shape monos constant) less =
      both_none (sum_numbers monos) (constant ∷ []) (none_in_row monos (omega (arith, less))) (first_none constant [] (omega (arith, less)) refl)

-- ---- index expressions of a kernel

mutual
  atom_size : (atom : Atom) → AtomHasSmallNumbers atom → atom_measured by_size atom ≤ atom_monomials atom * (2 ^ 20 + 2 ^ 28) + 2 ^ 28
  atom_size (Var number) h = omega arith
  atom_size (Param number) h = omega arith
  atom_size (App fun arg) h = small_size arg h

  row_size : {n : _} (row : Row_of-Mono n) → HaveSmallNumbers row → sum_measured by_size row ≤ sum_monomials row * (2 ^ 20 + 2 ^ 28)
  row_size end_of-Mono h = omega arith
  row_size (more_of-Mono coef atom others) h = let first = h.0 in let here = atom_size atom h.1 in let later = row_size others h.2 in omega (arith, first, here, later)

  small_size : (term : Term) → HasSmallNumbers term → size term ≤ monomials term * (2 ^ 20 + 2 ^ 28) + 2 ^ 28
  small_size (Term' shape monos constant) h = let all = row_size monos h.0 in let last = h.1 in omega (arith, all, last)

mutual
  atom_factor : (atom : Atom) → AtomHasSmallNumbers atom → atom_measured by_factor atom ≤ atom_monomials atom * 2 ^ 20
  atom_factor (Var number) h = omega arith
  atom_factor (Param number) h = omega arith
  atom_factor (App fun arg) h = small_factor arg h

  row_factor : {n : _} (row : Row_of-Mono n) → HaveSmallNumbers row → sum_measured by_factor row ≤ sum_monomials row * 2 ^ 20
  row_factor end_of-Mono h = omega arith
  row_factor (more_of-Mono coef atom others) h = let first = h.0 in let here = atom_factor atom h.1 in let later = row_factor others h.2 in omega (arith, first, here, later)

  small_factor : (term : Term) → HasSmallNumbers term → measured by_factor term ≤ monomials term * 2 ^ 20
  small_factor (Term' shape monos constant) h = let all = row_factor monos h.0 in omega (arith, all)

pub bounded_size : (term : Term) → IsBounded term → size term ≤ 2 ^ 34 + 2 ^ 30
bounded_size term bounded = let all = small_size term bounded.small in let few = bounded.few in omega (arith, all, few)

pub bounded_factor : (term : Term) → IsBounded term → measured by_factor term ≤ 2 ^ 26
bounded_factor term bounded = let all = small_factor term bounded.small in let few = bounded.few in omega (arith, all, few)
