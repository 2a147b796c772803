-- The normal form of a term is normal.
use Rattle.std.proofs.Common.{◌≡◌, ℤ, pos, ◌+ℤ◌, List, [], ◌∷◌, Bool, true, false, if◌then◌else◌, map, refl, ap, sym, ◌∙◌, subst}
use Rattle.std.specs.Ordering.{int_eq, ordering_reverse}
use Rattle.std.specs.declared.cmp.Ordering.{Ordering}
use Rattle.std.specs.declared.cmp.Ordering.TheVariants.{Less, Equal, Greater}
use Rattle.spf_term.specs.Normal.{AllAtoms, AreNormal, AtomIsNormal, IsBefore, IsBeforeAll, IsNormal, ListIsNormal, added, all_added, by_order, kept, normal, normal_atom, normal_mono, normal_monos}
use Rattle.spf_term.specs.Order.{atom_cmp}
use Rattle.spf_term.specs.declared.term.Atom.{Atom, Var, Param, App}
use Rattle.spf_term.specs.declared.term.Mono.{Mono}
use Rattle.spf_term.specs.declared.term.Term.{Term, Term', roll-Term, out-Term, out-roll-Term, Row_of-Mono, end_of-Mono, more_of-Mono, items-the_row-Mono, items_shown-the_row-Mono-0}
use Rattle.spf_term.proofs.OrderLaws.{atom_turned, atoms_total}

-- ---- monomials as a list

row_before : {n : _} (atom : Atom) (row : Row_of-Mono n) → IsBeforeAll atom (items-the_row-Mono n row) → IsBefore atom row
row_before atom end_of-Mono h = tt
row_before atom (more_of-Mono coef other others) h = (h.0, row_before atom others h.1)

row_normal : {n : _} (row : Row_of-Mono n) → ListIsNormal (items-the_row-Mono n row) → AreNormal row
row_normal end_of-Mono h = tt
row_normal (more_of-Mono coef atom others) h = (h.0, h.1, row_before atom others h.2, row_normal others h.3)

pub normal_from : (term : Term) → ListIsNormal (out-Term term).monos → IsNormal term
unfolding out-Term denote.Hole.Carrier.out
normal_from (Term' shape monos constant) h = row_normal monos (subst ListIsNormal (items_shown-the_row-Mono-0 shape monos) h)

-- ---- a monomial among others

before_in_row : {n : _} (atom : Atom) (row : Row_of-Mono n) → IsBefore atom row → IsBeforeAll atom (items-the_row-Mono n row)
before_in_row atom end_of-Mono h = tt
before_in_row atom (more_of-Mono coef other others) h = (h.0, before_in_row atom others h.1)

normal_in_row : {n : _} (row : Row_of-Mono n) → AreNormal row → ListIsNormal (items-the_row-Mono n row)
normal_in_row end_of-Mono h = tt
normal_in_row (more_of-Mono coef atom others) h = (h.0, h.1, before_in_row atom others h.2, normal_in_row others h.3)

pub normal_list : (term : Term) → IsNormal term → ListIsNormal (out-Term term).monos
unfolding out-Term denote.Hole.Carrier.out
normal_list (Term' shape monos constant) h = subst ListIsNormal (sym (items_shown-the_row-Mono-0 shape monos)) (normal_in_row monos h)

pub before_later : (a b : Atom) (monos : List Mono) → atom_cmp a b ≡ Less → IsBeforeAll b monos → IsBeforeAll a monos
before_later a b [] less h = tt
before_later a b (mono ∷ monos) less h = (atoms_total.trans a b mono.atom less h.0, before_later a b monos less h.1)

pub ordered : (P : List Mono → Type 0) (order : Ordering) (less equal greater : List Mono) → (order ≡ Less → P less) → (order ≡ Equal → P equal) → (order ≡ Greater → P greater) → P (by_order order less equal greater)
ordered P Less less equal greater a b c = a refl
ordered P Equal less equal greater a b c = b refl
ordered P Greater less equal greater a b c = c refl

module _ (P : Atom → Type 0) where
  each_by : (coef : ℤ) (atom : Atom) (monos : List Mono) (none : Bool) → AllAtoms P monos → P atom → AllAtoms P (if none then monos else record { coef = coef; atom = atom } ∷ monos)
  each_by coef atom monos true h is = h
  each_by coef atom monos false h is = (is, h)

  pub added_each : (coef : ℤ) (atom : Atom) (monos : List Mono) → AllAtoms P monos → P atom → AllAtoms P (added coef atom monos)
  added_each coef atom [] h is = each_by coef atom [] (int_eq coef (pos 0)) h is
  added_each coef atom (mono ∷ monos) h is =
      ordered (AllAtoms P) (atom_cmp atom mono.atom) _ _ _ (λ p. each_by coef atom (mono ∷ monos) (int_eq coef (pos 0)) h is)
      (λ p. each_by (coef +ℤ mono.coef) mono.atom monos (int_eq (coef +ℤ mono.coef) (pos 0)) h.1 h.0)
      (λ p. (h.0, added_each coef atom monos h.1 is))

module _ (coef : ℤ) (atom : Atom) (monos : List Mono) where
  normal_by : (none : Bool) → int_eq coef (pos 0) ≡ none → ListIsNormal monos → AtomIsNormal atom → IsBeforeAll atom monos → ListIsNormal (if none then monos else record { coef = coef; atom = atom } ∷ monos)
  normal_by true is h k l = h
  normal_by false is h k l = (is, k, l, h)

  kept_normal : ListIsNormal monos → AtomIsNormal atom → IsBeforeAll atom monos → ListIsNormal (kept coef atom monos)
  kept_normal h k l = normal_by (int_eq coef (pos 0)) refl h k l

pub added_normal : (coef : ℤ) (atom : Atom) (monos : List Mono) → ListIsNormal monos → AtomIsNormal atom → ListIsNormal (added coef atom monos)
added_normal coef atom [] h k = kept_normal coef atom [] h k tt
added_normal coef atom (mono ∷ monos) h k =
    ordered ListIsNormal (atom_cmp atom mono.atom) _ _ _ (λ less. kept_normal coef atom (mono ∷ monos) h k (less, before_later atom mono.atom monos less h.2))
    (λ equal. kept_normal (coef +ℤ mono.coef) mono.atom monos h.3 h.1 h.2)
    (λ greater. (h.0, h.1, added_each (λ other. atom_cmp mono.atom other ≡ Less) coef atom monos h.2 (atom_turned mono.atom atom ∙ ap ordering_reverse greater), added_normal coef atom monos h.3 k))

mutual
  pub normal_atom_is : (atom : Atom) → AtomIsNormal (normal_atom atom)
  normal_atom_is (Var number) = tt
  normal_atom_is (Param number) = tt
  normal_atom_is (App fun arg) = normal_is arg

  normal_monos_are : {n : _} (row : Row_of-Mono n) → ListIsNormal (normal_monos row)
  normal_monos_are end_of-Mono = tt
  normal_monos_are (more_of-Mono coef atom others) = added_normal coef (normal_atom atom) (normal_monos others) (normal_monos_are others) (normal_atom_is atom)

  pub normal_is : (term : Term) → IsNormal (normal term)
  normal_is (Term' shape monos constant) =
      normal_from (roll-Term (record { monos = normal_monos monos; constant = constant }))
      (subst ListIsNormal (sym (ap (λ term. term.monos) (out-roll-Term (record { monos = normal_monos monos; constant = constant })))) (normal_monos_are monos))

-- ---- the normal monomials, as a list

pub each_normal : (monos : List Mono) → AllAtoms AtomIsNormal (map normal_mono monos)
each_normal [] = tt
each_normal (mono ∷ monos) = (normal_atom_is mono.atom, each_normal monos)

row_normal_monos : {n : _} (row : Row_of-Mono n) → normal_monos row ≡ all_added (map normal_mono (items-the_row-Mono n row))
row_normal_monos end_of-Mono = refl
row_normal_monos (more_of-Mono coef atom others) = ap (added coef (normal_atom atom)) (row_normal_monos others)

pub normal_term_is : (term : Term) → normal term ≡ roll-Term (record { monos = all_added (map normal_mono (out-Term term).monos); constant = (out-Term term).constant })
unfolding out-Term denote.Hole.Carrier.out
normal_term_is (Term' shape monos constant) = ap (λ (of : List Mono). roll-Term (record { monos = of; constant = constant })) (row_normal_monos monos ∙ ap (λ of. all_added (map normal_mono of)) (sym (items_shown-the_row-Mono-0 shape monos)))
