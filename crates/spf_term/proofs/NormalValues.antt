-- The normal form of a term has the term's value.
use Rattle.std.proofs.Common.{◌≡◌, ℤ, ◌+ℤ◌, ◌*ℤ◌, List, refl, ap, ◌∙◌}
use Rattle.spf_term.specs.Environment.{Environment}
use Rattle.spf_term.specs.Normal.{normal, normal_atom, normal_monos}
use Rattle.spf_term.specs.Value.{atom_value, number_at, sum_value, table_at, value}
use Rattle.spf_term.specs.declared.term.Atom.{Atom, Var, Param, App}
use Rattle.spf_term.specs.declared.term.Term.{Term, Term', roll-Term, out-roll-Term, Row_of-Mono, end_of-Mono, more_of-Mono}
use Rattle.spf_term.proofs.Monos.{list_value, value_is}
use Rattle.spf_term.proofs.Weights.{added_weighed}

module _ (env : Environment) (variables : List ℤ) where
  abbrev of_atom : Atom → ℤ
  of_atom = atom_value env variables

  mutual
    normal_atom_value : (atom : Atom) → of_atom (normal_atom atom) ≡ of_atom atom
    normal_atom_value (Var number) = refl
    normal_atom_value (Param number) = refl
    normal_atom_value (App fun arg) = ap (number_at (table_at env fun)) (normal_value arg)

    normal_monos_value : {n : _} (row : Row_of-Mono n) → list_value env variables (normal_monos row) ≡ sum_value env variables row
    normal_monos_value end_of-Mono = refl
    normal_monos_value (more_of-Mono coef atom others) = added_weighed of_atom coef (normal_atom atom) (normal_monos others) ∙ (λ i. (coef *ℤ normal_atom_value atom i) +ℤ normal_monos_value others i)

    pub normal_value : (term : Term) → value env variables (normal term) ≡ value env variables term
    normal_value (Term' shape monos constant) =
        value_is env variables (roll-Term (record { monos = normal_monos monos; constant = constant }))
        ∙ ap (λ term. list_value env variables term.monos +ℤ term.constant) (out-roll-Term (record { monos = normal_monos monos; constant = constant }))
        ∙ ap (λ (sum : ℤ). sum +ℤ constant) (normal_monos_value monos)
