-- Terms, said of their monomials as lists.
use Rattle.std.proofs.Common.{◌≡◌, ℕ, ◌+◌, ℤ, ◌+ℤ◌, ◌*ℤ◌, List, [], ◌∷◌, ◌++◌, refl, ap, sym, ◌∙◌, ◌<◌, length, get_or, drop}
use Rattle.std.proofs.lemmas.List.{drop_more}
use Rattle.spf_term.specs.declared.term.Term.{Term, Term', out-Term, Row_of-Mono, end_of-Mono, more_of-Mono, items-the_row-Mono, items_shown-the_row-Mono-0}
use Rattle.spf_term.specs.declared.term.Mono.{Mono}
use Rattle.spf_term.specs.Environment.{Environment}
use Rattle.spf_term.proofs.Weights.{weighed}
use Rattle.spf_term.specs.Value.{Entry, applications, sum_applications, atom_applications, value, sum_value, atom_value, entries, sum_entries, atom_entries}

abbrev pub list_applications : List Mono → ℕ
list_applications [] = 0
list_applications (mono ∷ monos) = atom_applications mono.atom + list_applications monos

row_applications : {n : _} (row : Row_of-Mono n) → sum_applications row ≡ list_applications (items-the_row-Mono n row)
row_applications end_of-Mono = refl
row_applications (more_of-Mono coef atom others) = ap (λ more. atom_applications atom + more) (row_applications others)

pub applications_are : (term : Term) → applications term ≡ list_applications (out-Term term).monos
unfolding out-Term denote.Hole.Carrier.out
applications_are (Term' shape monos constant) = row_applications monos ∙ ap list_applications (sym (items_shown-the_row-Mono-0 shape monos))

pub drop_next : {X : Type 0} (items : List X) (index : ℕ) (item : X) → index < length items → item ≡ get_or items index item → drop index items ≡ item ∷ drop (index + 1) items
drop_next {X} items index item inside at = drop_more items index item inside ∙ ap (λ (first : X). first ∷ drop (index + 1) items) (sym at)

module _ (env : Environment) (variables : List ℤ) where
  abbrev pub list_value : List Mono → ℤ
  list_value = weighed (atom_value env variables)

  row_value : {n : _} (row : Row_of-Mono n) → sum_value env variables row ≡ list_value (items-the_row-Mono n row)
  row_value end_of-Mono = refl
  row_value (more_of-Mono coef atom others) = ap (λ more. (coef *ℤ atom_value env variables atom) +ℤ more) (row_value others)

  pub value_is : (term : Term) → value env variables term ≡ list_value (out-Term term).monos +ℤ (out-Term term).constant
  unfolding out-Term denote.Hole.Carrier.out
  value_is (Term' shape monos constant) = ap (λ sum. sum +ℤ constant) (row_value monos ∙ ap list_value (sym (items_shown-the_row-Mono-0 shape monos)))

  abbrev pub list_entries : ℕ → List Mono → List Entry
  list_entries site [] = []
  list_entries site (mono ∷ monos) = atom_entries env variables site mono.atom ++ list_entries (site + atom_applications mono.atom) monos

  row_entries : {n : _} (site : ℕ) (row : Row_of-Mono n) → sum_entries env variables site row ≡ list_entries site (items-the_row-Mono n row)
  row_entries site end_of-Mono = refl
  row_entries site (more_of-Mono coef atom others) = ap (λ more. atom_entries env variables site atom ++ more) (row_entries (site + atom_applications atom) others)

  pub entries_are : (site : ℕ) (term : Term) → entries env variables site term ≡ list_entries site (out-Term term).monos
  unfolding out-Term denote.Hole.Carrier.out
  entries_are site (Term' shape monos constant) = row_entries site monos ∙ ap (list_entries site) (sym (items_shown-the_row-Mono-0 shape monos))
