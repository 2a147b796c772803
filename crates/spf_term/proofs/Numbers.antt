-- The monomials and the numbers of a term, said of its monomials as lists.
use Rattle.std.proofs.Common.{◌≡◌, ℕ, ◌+◌, ◌<◌, ℤ, List, [], ◌∷◌, ◌++◌, length, get_or, drop, refl, ap, sym, ◌∙◌, append_assoc, arith, min, ◌-◌, ◌^◌, ◌≤◌, Some, None}
use Rattle.std.specs.List.{find}
use Rattle.std.specs.Option.{option_or}
use Rattle.std.proofs.lemmas.List.{drop_all}
use Rattle.std.proofs.lemmas.List.Folds.{find-append}
use Rattle.spf_term.proofs.Monos.{drop_next}
use Rattle.spf_term.specs.Bounded.{atom_monomials, monomials, sum_monomials}
use Rattle.spf_term.specs.NumberRule.{is_outside, mono_numbers, numbers, sum_numbers}
use Rattle.spf_term.specs.declared.term.Mono.{Mono}
use Rattle.spf_term.specs.declared.term.Term.{Term, Term', out-Term, Row_of-Mono, end_of-Mono, more_of-Mono, items-the_row-Mono, items_shown-the_row-Mono-0}

abbrev pub list_monomials : List Mono → ℕ
list_monomials [] = 0
list_monomials (mono ∷ monos) = 1 + atom_monomials mono.atom + list_monomials monos

row_monomials : {n : _} (row : Row_of-Mono n) → sum_monomials row ≡ list_monomials (items-the_row-Mono n row)
row_monomials end_of-Mono = refl
row_monomials (more_of-Mono coef atom others) = ap (λ more. 1 + atom_monomials atom + more) (row_monomials others)

pub monomials_are : (term : Term) → monomials term ≡ list_monomials (out-Term term).monos
unfolding out-Term denote.Hole.Carrier.out
monomials_are (Term' shape monos constant) = row_monomials monos ∙ ap list_monomials (sym (items_shown-the_row-Mono-0 shape monos))

abbrev pub list_numbers : List Mono → ℤ → List ℤ
list_numbers [] constant = constant ∷ []
list_numbers (mono ∷ monos) constant = mono_numbers mono ++ list_numbers monos constant

row_numbers : {n : _} (row : Row_of-Mono n) (constant : ℤ) → sum_numbers row ++ constant ∷ [] ≡ list_numbers (items-the_row-Mono n row) constant
row_numbers end_of-Mono constant = refl
row_numbers (more_of-Mono coef atom others) constant = append_assoc (mono_numbers (record { coef = coef; atom = atom })) (sum_numbers others) (constant ∷ []) ∙ ap (λ (more : List ℤ). mono_numbers (record { coef = coef; atom = atom }) ++ more) (row_numbers others constant)

pub numbers_are : (term : Term) → numbers term ≡ list_numbers (out-Term term).monos (out-Term term).constant
unfolding out-Term denote.Hole.Carrier.out
numbers_are (Term' shape monos constant) = row_numbers monos constant ∙ ap (λ (of : List Mono). list_numbers of constant) (sym (items_shown-the_row-Mono-0 shape monos))

-- ---- at a place of a list

pub all_counted : (monos : List Mono) (index count total : ℕ) → length monos ≤ index → count < 2 ^ 64 → min (count + list_monomials (drop index monos)) (2 ^ 64 - 1) ≡ min total (2 ^ 64 - 1) → count ≡ min total (2 ^ 64 - 1)
all_counted monos index count total past fits is =
    let none : list_monomials (drop index monos) ≡ 0 = ap list_monomials (drop_all index monos past) in
    omega arith

module _ (monos : List Mono) (index : ℕ) (mono : Mono) (inside : index < length monos) (at : mono ≡ get_or monos index mono) (constant : ℤ) where
  abbrev rest : List ℤ
  rest = list_numbers (drop (index + 1) monos) constant

  split_here : find is_outside (list_numbers (drop index monos) constant) ≡ option_or (find is_outside (mono_numbers mono)) (find is_outside rest)
  split_here = ap (λ (of : List Mono). find is_outside (list_numbers of constant)) (drop_next monos index mono inside at) ∙ find-append is_outside (mono_numbers mono) rest

  pub found_here : (number : ℤ) → find is_outside (mono_numbers mono) ≡ Some number → find is_outside (list_numbers (drop index monos) constant) ≡ Some number
  found_here number is = split_here ∙ ap (λ found. option_or found (find is_outside rest)) is

  pub not_here : find is_outside (mono_numbers mono) ≡ None → find is_outside (list_numbers (drop index monos) constant) ≡ find is_outside rest
  not_here is = split_here ∙ ap (λ found. option_or found (find is_outside rest)) is
