-- Renumbered terms are as large as they were.
use Rattle.std.proofs.Common.{◌≡◌, ℕ, ◌+◌, List, [], ◌∷◌, refl, ap, sym, ◌∙◌}
use Rattle.spf_term.specs.Measure.{Measure, atom_measured, measured, sum_measured}
use Rattle.spf_term.specs.declared.term.Atom.{Atom, Var, Param, App}
use Rattle.spf_term.specs.declared.term.Mono.{Mono}
use Rattle.spf_term.specs.declared.term.Term.{Term, Term', out-Term, out-roll-Term, Row_of-Mono, end_of-Mono, more_of-Mono, items-the_row-Mono, items_shown-the_row-Mono-0}
use Rattle.spf_rel.specs.Renumbering.{renumbered, renumbered_atom, renumbered_monos}
use Rattle.spf_rel.proofs.Renumbered.{sum_of}

module _ (by : Measure) where
  abbrev pub list_measured : List Mono → ℕ
  list_measured [] = 0
  list_measured (mono ∷ monos) = by.coef mono.coef + atom_measured by mono.atom + list_measured monos

  row_measured : {n : _} (row : Row_of-Mono n) → sum_measured by row ≡ list_measured (items-the_row-Mono n row)
  row_measured end_of-Mono = refl
  row_measured (more_of-Mono coef atom others) = ap (λ more. by.coef coef + atom_measured by atom + more) (row_measured others)

  pub measured_is : (term : Term) → measured by term ≡ list_measured (out-Term term).monos + by.constant (out-Term term).constant
  unfolding out-Term denote.Hole.Carrier.out
  measured_is (Term' shape monos constant) = ap (λ sum. sum + by.constant constant) (row_measured monos ∙ ap list_measured (sym (items_shown-the_row-Mono-0 shape monos)))

module _ (by : Measure) (to : ℕ → ℕ) where
  mutual
    atom_as_large : (atom : Atom) → atom_measured by (renumbered_atom to atom) ≡ atom_measured by atom
    atom_as_large (Var number) = refl
    atom_as_large (Param number) = refl
    atom_as_large (App fun arg) = as_large arg

    row_as_large : {n : _} (row : Row_of-Mono n) → list_measured by (renumbered_monos to row) ≡ sum_measured by row
    row_as_large end_of-Mono = refl
    row_as_large (more_of-Mono coef atom others) = λ i. by.coef coef + atom_as_large atom i + row_as_large others i

    pub as_large : (term : Term) → measured by (renumbered to term) ≡ measured by term
    as_large (Term' shape monos constant) =
        measured_is by (sum_of to (renumbered_monos to monos) constant)
        ∙ ap (λ term. list_measured by term.monos + by.constant term.constant) (out-roll-Term (record { monos = renumbered_monos to monos; constant = constant }))
        ∙ ap (λ sum. sum + by.constant constant) (row_as_large monos)
