-- Atoms and terms that compare alike are equal.
use Rattle.std.proofs.Common.{◌≡◌, ◌∷◌, refl, ap, sym, ◌∙◌}
use Rattle.std.proofs.lemmas.Map.Lookups.{exact_signed, exact_unsigned}
use Rattle.std.specs.Ordering.{int_cmp, nat_cmp, ordering_then}
use Rattle.std.specs.declared.cmp.Ordering.{Ordering}
use Rattle.std.specs.declared.cmp.Ordering.TheVariants.{Less, Equal, Greater}
use Rattle.spf_term.specs.Order.{atom_cmp, monos_cmp, term_cmp}
use Rattle.spf_term.specs.declared.term.Atom.{Atom, Var, Param, App}
use Rattle.spf_term.specs.declared.term.Term.{Term, Term', out-Term, roll-Term, roll-out-Term, Row_of-Mono, end_of-Mono, more_of-Mono, items-the_row-Mono, items_shown-the_row-Mono-0}

both_equal : (first second : Ordering) → ordering_then first second ≡ Equal → (first ≡ Equal) × (second ≡ Equal)
both_equal Less second is = cc
both_equal Equal second is = (refl, is)
both_equal Greater second is = cc

-- terms of the same monomials and constant
pub same_term : (a b : Term) → (out-Term a).monos ≡ (out-Term b).monos → (out-Term a).constant ≡ (out-Term b).constant → a ≡ b
same_term a b monos constant = sym (roll-out-Term a) ∙ (λ i. roll-Term (record { monos = monos i; constant = constant i })) ∙ roll-out-Term b

mutual
  unfolding out-Term denote.Hole.Carrier.out

  pub exact_atom : (a b : Atom) → atom_cmp a b ≡ Equal → a ≡ b
  exact_atom (Var m) (Var n) is = ap Var (exact_unsigned m n is)
  exact_atom (Var m) (Param n) is = cc
  exact_atom (Var m) (App fun arg) is = cc
  exact_atom (Param m) (Var n) is = cc
  exact_atom (Param m) (Param n) is = ap Param (exact_unsigned m n is)
  exact_atom (Param m) (App fun arg) is = cc
  exact_atom (App fun arg) (Var n) is = cc
  exact_atom (App fun arg) (Param n) is = cc
  exact_atom (App fun arg) (App fun' arg') is =
      let parts = both_equal (nat_cmp fun fun') (term_cmp arg arg') is in
      λ i. App (exact_unsigned fun fun' parts.0 i) (exact_term arg arg' parts.1 i)

  exact_row : {m n : _} (a : Row_of-Mono m) (b : Row_of-Mono n) → monos_cmp a b ≡ Equal → items-the_row-Mono m a ≡ items-the_row-Mono n b
  exact_row end_of-Mono end_of-Mono is = refl
  exact_row end_of-Mono (more_of-Mono coef' atom' others') is = cc
  exact_row (more_of-Mono coef atom others) end_of-Mono is = cc
  exact_row (more_of-Mono coef atom others) (more_of-Mono coef' atom' others') is =
      let parts = both_equal (atom_cmp atom atom') (ordering_then (int_cmp coef coef') (monos_cmp others others')) is in
      let later = both_equal (int_cmp coef coef') (monos_cmp others others') parts.1 in
      λ i. record { coef = exact_signed coef coef' later.0 i; atom = exact_atom atom atom' parts.0 i } ∷ exact_row others others' later.1 i

  pub exact_term : (a b : Term) → term_cmp a b ≡ Equal → a ≡ b
  exact_term (Term' shape monos constant) (Term' shape' monos' constant') is =
      let parts = both_equal (monos_cmp monos monos') (int_cmp constant constant') is in
      same_term (Term' shape monos constant) (Term' shape' monos' constant')
      (items_shown-the_row-Mono-0 shape monos ∙ exact_row monos monos' parts.0 ∙ sym (items_shown-the_row-Mono-0 shape' monos'))
      (exact_signed constant constant' parts.1)
