-- A normal term is its normal form.
use Rattle.std.proofs.Common.{◌≡◌, ℕ, ◌+◌, ◌<◌, ◌≤◌, ◌^◌, List, [], ◌∷◌, length, get_or, map, refl, ap, sym, ◌∙◌, subst, arith, unsigned_abs}
use Rattle.std.proofs.lemmas.List.Elements.{All-from_recursion}
use Rattle.std.specs.declared.cmp.Ordering.{Ordering}
use Rattle.std.specs.declared.cmp.Ordering.TheVariants.{Less, Equal, Greater}
use Rattle.spf_term.specs.Bounded.{IsWithin}
use Rattle.spf_term.specs.Normal.{AllAtoms, AreNormal, AtomIsNormal, IsBeforeAll, IsNormal, ListIsNormal, all_added, by_order, normal, normal_atom, normal_mono}
use Rattle.spf_term.specs.Order.{atom_cmp}
use Rattle.spf_term.specs.Wide.{load}
use Rattle.spf_term.specs.declared.term.Atom.{Atom, Var, Param, App}
use Rattle.spf_term.specs.declared.term.Mono.{Mono}
use Rattle.spf_term.specs.declared.term.Term.{Term, Term', out-Term, roll-out-Term, Row_of-Mono, end_of-Mono, more_of-Mono, items-the_row-Mono, items_shown-the_row-Mono-0}
use Rattle.spf_term.proofs.Exact.{exact_atom}
use Rattle.spf_term.proofs.NormalForms.{normal_list, normal_term_is}
use Rattle.spf_term.proofs.Rule.{AreSmall}
use Rattle.spf_term.proofs.Unique.{added_up}
use Rattle.spf_term.proofs.Wides.{sum_of}

atoms_normal : (monos : List Mono) → ListIsNormal monos → AllAtoms AtomIsNormal monos
atoms_normal [] h = tt
atoms_normal (mono ∷ monos) h = (h.1, atoms_normal monos h.3)

pub normal_at : (term : Term) → IsNormal term → (monos : List Mono) → monos ≡ (out-Term term).monos → (index : ℕ) (mono : Mono) → index < length monos → mono ≡ get_or monos index mono → AtomIsNormal mono.atom
normal_at term h monos are index mono inside is =
    let each = All-from_recursion (λ (of : Mono). AtomIsNormal of.atom) monos (subst (AllAtoms AtomIsNormal) (sym are) (atoms_normal (out-Term term).monos (normal_list term h))) in
    subst (λ (of : Mono). AtomIsNormal of.atom) (sym is) (each index mono inside)

settled_by : (term : Term) → IsNormal term → map normal_mono (out-Term term).monos ≡ (out-Term term).monos → normal term ≡ term
settled_by term h same =
    let list = normal_list term h in
    let all = sym (added_up (out-Term term).monos (out-Term term).monos list (atoms_normal (out-Term term).monos list) (λ weight. refl)) in
    normal_term_is term ∙ ap (λ of. sum_of of (out-Term term).constant) (ap all_added same ∙ all) ∙ roll-out-Term term

mutual
  unfolding out-Term denote.Hole.Carrier.out

  pub settled_atom : (atom : Atom) → AtomIsNormal atom → normal_atom atom ≡ atom
  settled_atom (Var number) h = refl
  settled_atom (Param number) h = refl
  settled_atom (App fun arg) h = ap (App fun) (settled arg h)

  settled_row : {n : _} (row : Row_of-Mono n) → AreNormal row → map normal_mono (items-the_row-Mono n row) ≡ items-the_row-Mono n row
  settled_row end_of-Mono h = refl
  settled_row (more_of-Mono coef atom others) h = λ i. record { coef = coef; atom = settled_atom atom h.1 i } ∷ settled_row others h.3 i

  pub settled : (term : Term) → IsNormal term → normal term ≡ term
  settled (Term' shape monos constant) h =
      settled_by (Term' shape monos constant) h (ap (map normal_mono) (items_shown-the_row-Mono-0 shape monos) ∙ settled_row monos h ∙ sym (items_shown-the_row-Mono-0 shape monos))

pub settled_monos : (term : Term) → IsNormal term → map normal_mono (out-Term term).monos ≡ (out-Term term).monos
unfolding out-Term denote.Hole.Carrier.out
settled_monos (Term' shape monos constant) h = ap (map normal_mono) (items_shown-the_row-Mono-0 shape monos) ∙ settled_row monos h ∙ sym (items_shown-the_row-Mono-0 shape monos)

-- ---- each atom weighs but once

absent_load : (atom : Atom) (monos : List Mono) → IsBeforeAll atom monos → load atom monos ≡ 0
absent_load atom [] h = refl
absent_load atom (mono ∷ monos) h =
    let first = ap (λ order. by_order order 0 (unsigned_abs mono.coef) 0) h.0 in
    let more = absent_load atom monos h.1 in
    omega (arith, first, more)

once_by : (order : Ordering) (atom : Atom) (mono : Mono) (monos : List Mono) → atom_cmp atom mono.atom ≡ order → IsWithin (2 ^ 62) mono.coef → IsBeforeAll mono.atom monos → load atom monos ≤ 2 ^ 62 → by_order order 0 (unsigned_abs mono.coef) 0 + load atom monos ≤ 2 ^ 62
once_by Less atom mono monos is small before more = omega (arith, more)
once_by Equal atom mono monos is small before more =
    let none = ap (λ of. load of monos) (exact_atom atom mono.atom is) ∙ absent_load mono.atom monos before in
    omega (arith, none, small)
once_by Greater atom mono monos is small before more = omega (arith, more)

pub once : (atom : Atom) (monos : List Mono) → ListIsNormal monos → AreSmall monos → load atom monos ≤ 2 ^ 62
once atom [] h small = omega arith
once atom (mono ∷ monos) h small = once_by (atom_cmp atom mono.atom) atom mono monos refl small.0.0 h.2 (once atom monos h.3 small.1)
