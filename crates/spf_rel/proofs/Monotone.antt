-- Variables with other numbers in the same order: a normal term stays normal, and has the numbers and monomials that it had.
use Rattle.std.proofs.Common.{◌≡◌, ℕ, ◌+◌, ◌-◌, ◌^◌, ℤ, pos, List, [], ◌∷◌, ◌++◌, None, Some, if◌then◌else◌, nat_lt, min, refl, ap, sym, ◌∙◌, subst, append_assoc}
use Rattle.std.specs.Cmp.Lexicographic.{slice_cmp}
use Rattle.std.specs.List.{find}
use Rattle.std.specs.Ordering.{int_cmp, nat_cmp, ordering_then}
use Rattle.std.specs.declared.cmp.Ordering.{Ordering}
use Rattle.std.specs.declared.cmp.Ordering.TheVariants.{Less, Equal, Greater}
use Rattle.spf_term.specs.Bounded.{atom_monomials, monomials, sum_monomials}
use Rattle.spf_term.specs.Normal.{AreNormal, AtomIsNormal, IsBefore, IsBeforeAll, IsNormal, ListIsNormal}
use Rattle.spf_term.specs.NumberRule.{atom_numbers, excess, is_outside, mono_numbers, numbers, sum_numbers}
use Rattle.spf_term.specs.Order.{atom_cmp, monos_cmp, term_cmp}
use Rattle.spf_term.specs.declared.term.Atom.{Atom, Var, Param, App}
use Rattle.spf_term.specs.declared.term.Mono.{Mono}
use Rattle.spf_term.specs.declared.term.Term.{Term, Term', out-Term, roll-Term, out-roll-Term, Row_of-Mono, end_of-Mono, more_of-Mono, items-the_row-Mono, items_shown-the_row-Mono-0}
use Rattle.spf_term.proofs.Numbers.{list_monomials, list_numbers, monomials_are, numbers_are}
use Rattle.spf_rel.specs.Renumbering.{AtomVariables, SumVariables, Variables, renumbered, renumbered_atom, renumbered_monos}

then_grouped : (a b c : Ordering) → ordering_then (ordering_then a b) c ≡ ordering_then a (ordering_then b c)
then_grouped Less b c = refl
then_grouped Equal b c = refl
then_grouped Greater b c = refl

-- ---- monomials as a list

abbrev mono_cmp : Mono → Mono → Ordering
mono_cmp a b = ordering_then (atom_cmp a.atom b.atom) (int_cmp a.coef b.coef)

rows_cmp : {m n : _} (a : Row_of-Mono m) (b : Row_of-Mono n) → monos_cmp a b ≡ slice_cmp mono_cmp (items-the_row-Mono m a) (items-the_row-Mono n b)
rows_cmp end_of-Mono end_of-Mono = refl
rows_cmp end_of-Mono (more_of-Mono coef' atom' others') = refl
rows_cmp (more_of-Mono coef atom others) end_of-Mono = refl
rows_cmp (more_of-Mono coef atom others) (more_of-Mono coef' atom' others') =
    ap (λ rest. ordering_then (atom_cmp atom atom') (ordering_then (int_cmp coef coef') rest)) (rows_cmp others others')
    ∙ sym (then_grouped (atom_cmp atom atom') (int_cmp coef coef') _)

term_cmp_is : (a b : Term) → term_cmp a b ≡ ordering_then (slice_cmp mono_cmp (out-Term a).monos (out-Term b).monos) (int_cmp (out-Term a).constant (out-Term b).constant)
unfolding out-Term denote.Hole.Carrier.out
term_cmp_is (Term' shape monos constant) (Term' shape' monos' constant') =
    ap (λ rest. ordering_then rest (int_cmp constant constant'))
    (rows_cmp monos monos' ∙ (λ i. slice_cmp mono_cmp (sym (items_shown-the_row-Mono-0 shape monos) i) (sym (items_shown-the_row-Mono-0 shape' monos') i)))

row_before : {n : _} (atom : Atom) (row : Row_of-Mono n) → IsBeforeAll atom (items-the_row-Mono n row) → IsBefore atom row
row_before atom end_of-Mono h = tt
row_before atom (more_of-Mono coef other others) h = (h.0, row_before atom others h.1)

normal_row : {n : _} (row : Row_of-Mono n) → ListIsNormal (items-the_row-Mono n row) → AreNormal row
normal_row end_of-Mono h = tt
normal_row (more_of-Mono coef atom others) h = (h.0, h.1, row_before atom others h.2, normal_row others h.3)

normal_from : (term : Term) → ListIsNormal (out-Term term).monos → IsNormal term
unfolding out-Term denote.Hole.Carrier.out
normal_from (Term' shape monos constant) h = normal_row monos (subst ListIsNormal (items_shown-the_row-Mono-0 shape monos) h)

made_order : (a b : List Mono) (c d : ℤ) → term_cmp (roll-Term (record { monos = a; constant = c })) (roll-Term (record { monos = b; constant = d })) ≡ ordering_then (slice_cmp mono_cmp a b) (int_cmp c d)
made_order a b c d =
    let other : Term = roll-Term (record { monos = b; constant = d }) in
    term_cmp_is (roll-Term (record { monos = a; constant = c })) other
    ∙ ap (λ term. ordering_then (slice_cmp mono_cmp term.monos (out-Term other).monos) (int_cmp term.constant (out-Term other).constant)) (out-roll-Term (record { monos = a; constant = c }))
    ∙ ap (λ term. ordering_then (slice_cmp mono_cmp a term.monos) (int_cmp c term.constant)) (out-roll-Term (record { monos = b; constant = d }))

module _ (to : ℕ → ℕ) where
  -- ---- numbers and monomials

  mutual
    atom_count : (atom : Atom) → atom_monomials (renumbered_atom to atom) ≡ atom_monomials atom
    atom_count (Var number) = refl
    atom_count (Param number) = refl
    atom_count (App fun arg) = count_same arg

    row_count : {n : _} (row : Row_of-Mono n) → list_monomials (renumbered_monos to row) ≡ sum_monomials row
    row_count end_of-Mono = refl
    row_count (more_of-Mono coef atom others) = λ i. 1 + atom_count atom i + row_count others i

    count_same : (term : Term) → monomials (renumbered to term) ≡ monomials term
    count_same (Term' shape monos constant) =
        monomials_are (roll-Term (record { monos = renumbered_monos to monos; constant = constant }))
        ∙ ap (λ term. list_monomials term.monos) (out-roll-Term (record { monos = renumbered_monos to monos; constant = constant })) ∙ row_count monos

  mutual
    atom_numbers_same : (atom : Atom) → atom_numbers (renumbered_atom to atom) ≡ atom_numbers atom
    atom_numbers_same (Var number) = refl
    atom_numbers_same (Param number) = refl
    atom_numbers_same (App fun arg) = numbers_same arg

    row_numbers_same : {n : _} (row : Row_of-Mono n) (constant : ℤ) → list_numbers (renumbered_monos to row) constant ≡ sum_numbers row ++ constant ∷ []
    row_numbers_same end_of-Mono constant = refl
    row_numbers_same (more_of-Mono coef atom others) constant =
        (λ i. (coef ∷ atom_numbers_same atom i) ++ row_numbers_same others constant i) ∙ sym (append_assoc (coef ∷ atom_numbers atom) (sum_numbers others) (constant ∷ []))

    numbers_same : (term : Term) → numbers (renumbered to term) ≡ numbers term
    numbers_same (Term' shape monos constant) =
        numbers_are (roll-Term (record { monos = renumbered_monos to monos; constant = constant }))
        ∙ ap (λ term. list_numbers term.monos term.constant) (out-roll-Term (record { monos = renumbered_monos to monos; constant = constant })) ∙ row_numbers_same monos constant

  pub excess_same : (term : Term) → excess (renumbered to term) ≡ excess term
  excess_same term =
      λ i. if nat_lt 16384 (count_same term i) then Some (pos (min (count_same term i) (2 ^ 64 - 1))) else find is_outside (numbers_same term i)

  -- ---- order

  module _ (P : ℕ → Type 0) (same : (a b : ℕ) → P a → P b → nat_cmp (to a) (to b) ≡ nat_cmp a b) where
    mutual
      atom_order : (a b : Atom) → AtomVariables P a → AtomVariables P b → atom_cmp (renumbered_atom to a) (renumbered_atom to b) ≡ atom_cmp a b
      atom_order (Var number) (Var number') h k = same number number' h k
      atom_order (Var number) (Param number') h k = refl
      atom_order (Var number) (App fun' arg') h k = refl
      atom_order (Param number) (Var number') h k = refl
      atom_order (Param number) (Param number') h k = refl
      atom_order (Param number) (App fun' arg') h k = refl
      atom_order (App fun arg) (Var number') h k = refl
      atom_order (App fun arg) (Param number') h k = refl
      atom_order (App fun arg) (App fun' arg') h k = ap (ordering_then (nat_cmp fun fun')) (term_order arg arg' h k)

      row_order : {m n : _} (a : Row_of-Mono m) (b : Row_of-Mono n) → SumVariables P a → SumVariables P b → slice_cmp mono_cmp (renumbered_monos to a) (renumbered_monos to b) ≡ monos_cmp a b
      row_order end_of-Mono end_of-Mono h k = refl
      row_order end_of-Mono (more_of-Mono coef' atom' others') h k = refl
      row_order (more_of-Mono coef atom others) end_of-Mono h k = refl
      row_order (more_of-Mono coef atom others) (more_of-Mono coef' atom' others') h k =
          then_grouped (atom_cmp (renumbered_atom to atom) (renumbered_atom to atom')) (int_cmp coef coef') (slice_cmp mono_cmp (renumbered_monos to others) (renumbered_monos to others'))
          ∙ (λ i. ordering_then (atom_order atom atom' h.0 k.0 i) (ordering_then (int_cmp coef coef') (row_order others others' h.1 k.1 i)))

      term_order : (a b : Term) → Variables P a → Variables P b → term_cmp (renumbered to a) (renumbered to b) ≡ term_cmp a b
      term_order (Term' shape monos constant) (Term' shape' monos' constant') h k =
          made_order (renumbered_monos to monos) (renumbered_monos to monos') constant constant'
          ∙ ap (λ first. ordering_then first (int_cmp constant constant')) (row_order monos monos' h k)

    before_same : {n : _} (atom : Atom) (row : Row_of-Mono n) → AtomVariables P atom → SumVariables P row → IsBefore atom row → IsBeforeAll (renumbered_atom to atom) (renumbered_monos to row)
    before_same atom end_of-Mono h k before = tt
    before_same atom (more_of-Mono coef' atom' others) h k before = (atom_order atom atom' h k.0 ∙ before.0, before_same atom others h k.1 before.1)

    mutual
      atom_normal : (atom : Atom) → AtomVariables P atom → AtomIsNormal atom → AtomIsNormal (renumbered_atom to atom)
      atom_normal (Var number) h is = tt
      atom_normal (Param number) h is = tt
      atom_normal (App fun arg) h is = normal_same arg h is

      row_normal : {n : _} (row : Row_of-Mono n) → SumVariables P row → AreNormal row → ListIsNormal (renumbered_monos to row)
      row_normal end_of-Mono h is = tt
      row_normal (more_of-Mono coef atom others) h is = (is.0, atom_normal atom h.0 is.1, before_same atom others h.0 h.1 is.2, row_normal others h.1 is.3)

      pub normal_same : (term : Term) → Variables P term → IsNormal term → IsNormal (renumbered to term)
      normal_same (Term' shape monos constant) h is =
          normal_from (roll-Term (record { monos = renumbered_monos to monos; constant = constant }))
          (subst ListIsNormal (sym (ap (λ term. term.monos) (out-roll-Term (record { monos = renumbered_monos to monos; constant = constant })))) (row_normal monos h is))
