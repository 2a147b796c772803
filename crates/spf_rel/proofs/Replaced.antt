-- Terms in which a variable is replaced, doesn't occur, or has another number.
use Rattle.std.proofs.Common.{◌≡◌, subst, ℕ, ℤ, pos, ◌+ℤ◌, ◌*ℤ◌, List, [], ◌∷◌, ◌++◌, Bool, true, false, if◌then◌else◌, nat_eq, refl, ap, sym, ◌∙◌, arith}
use Rattle.std.proofs.Math.IntN.{+ℤ_idl, +ℤ_idr}
use Rattle.std.proofs.lemmas.Bool.Decides.{nat_tests}
use Rattle.spf_term.specs.Solution.{atom_mentions, mentions, sum_mentions}
use Rattle.spf_term.specs.Substitution.{is_variable, scaled, substituted, substituted_atom, substituted_constants, substituted_monos}
use Rattle.spf_term.specs.declared.term.Atom.{Atom, Var, Param, App}
use Rattle.spf_term.specs.declared.term.Mono.{Mono}
use Rattle.spf_term.specs.declared.term.Term.{Term, Term', out-Term, roll-Term, roll-out-Term, Row_of-Mono, end_of-Mono, more_of-Mono, items-the_row-Mono, items_shown-the_row-Mono-0}
use Rattle.spf_rel.specs.Renumbering.{AtomVariables, SumVariables, Variables, renumbered, renumbered_atom, renumbered_monos}
use Rattle.spf_rel.proofs.Kept.{InList, in_both, in_term, of_sum, scaled_in}

-- ---- a variable that no number of the term is

module _ (P : ℕ → Type 0) (var : ℕ) (never : P var → ⊥) where
  differs_by : (same : Bool) (number : ℕ) → nat_eq number var ≡ same → P number → same ≡ false
  differs_by true number is h = let here : number ≡ var = grind (arith, nat_tests) in absurd (never (subst P here h))
  differs_by false number is h = refl

  mutual
    atom_apart : (atom : Atom) → AtomVariables P atom → atom_mentions var atom ≡ false
    atom_apart (Var number) h = differs_by (nat_eq number var) number refl h
    atom_apart (Param number) h = refl
    atom_apart (App fun arg) h = apart arg h

    row_apart : {n : _} (row : Row_of-Mono n) → SumVariables P row → sum_mentions var row ≡ false
    row_apart end_of-Mono h = refl
    row_apart (more_of-Mono coef atom others) h = ap (λ here. if here then true else sum_mentions var others) (atom_apart atom h.0) ∙ row_apart others h.1

    pub apart : (term : Term) → Variables P term → mentions var term ≡ false
    apart (Term' shape monos constant) h = row_apart monos h

  -- nothing comes in its place
  module _ (by : Term) where
    part_same : (is : Bool) (coef : ℤ) (atom : Atom) → is ≡ false → substituted_atom var by atom ≡ atom
        → (if is then scaled coef (out-Term by).monos else record { coef = coef; atom = substituted_atom var by atom } ∷ []) ≡ record { coef = coef; atom = atom } ∷ []
    part_same true coef atom none same = cc
    part_same false coef atom none same = λ i. record { coef = coef; atom = same i } ∷ []

    constant_same : (is : Bool) (number sum : ℤ) → is ≡ false → sum ≡ pos 0 → (if is then number else pos 0) +ℤ sum ≡ pos 0
    constant_same true number sum none zero = cc
    constant_same false number sum none zero = +ℤ_idl sum ∙ zero

    pub no_variable : (atom : Atom) → AtomVariables P atom → is_variable var atom ≡ false
    no_variable (Var number) h = differs_by (nat_eq number var) number refl h
    no_variable (Param number) h = refl
    no_variable (App fun arg) h = refl

    mutual
      unfolding out-Term denote.Hole.Carrier.out

      pub atom_untouched : (atom : Atom) → AtomVariables P atom → substituted_atom var by atom ≡ atom
      atom_untouched (Var number) h = refl
      atom_untouched (Param number) h = refl
      atom_untouched (App fun arg) h = ap (App fun) (untouched arg h)

      row_untouched : {n : _} (row : Row_of-Mono n) → SumVariables P row → substituted_monos var by row ≡ items-the_row-Mono n row
      row_untouched end_of-Mono h = refl
      row_untouched (more_of-Mono coef atom others) h = λ i. part_same (is_variable var atom) coef atom (no_variable atom h.0) (atom_untouched atom h.0) i ++ row_untouched others h.1 i

      constants_untouched : {n : _} (row : Row_of-Mono n) → SumVariables P row → substituted_constants var by row ≡ pos 0
      constants_untouched end_of-Mono h = refl
      constants_untouched (more_of-Mono coef atom others) h = constant_same (is_variable var atom) (coef *ℤ (out-Term by).constant) (substituted_constants var by others) (no_variable atom h.0) (constants_untouched others h.1)

      pub untouched : (term : Term) → Variables P term → substituted var by term ≡ term
      untouched (Term' shape monos constant) h =
          (λ i. roll-Term (record { monos = (row_untouched monos h ∙ sym (items_shown-the_row-Mono-0 shape monos)) i; constant = (ap (λ (more : ℤ). constant +ℤ more) (constants_untouched monos h) ∙ +ℤ_idr constant) i }))
          ∙ roll-out-Term (Term' shape monos constant)

-- ---- a variable that is replaced is gone

module _ (P Q : ℕ → Type 0) (var : ℕ) (leads : (number : ℕ) → P number → nat_eq number var ≡ false → Q number) (by : Term) (by_is : Variables Q by) where
  part_in : (is : Bool) (coef : ℤ) (atom : Atom) → (is ≡ false → AtomVariables Q (substituted_atom var by atom))
      → InList Q (if is then scaled coef (out-Term by).monos else record { coef = coef; atom = substituted_atom var by atom } ∷ [])
  part_in true coef atom h = scaled_in Q coef (out-Term by).monos (in_term Q by by_is)
  part_in false coef atom h = (h refl, tt)

  mutual
    atom_replaced : (atom : Atom) → AtomVariables P atom → is_variable var atom ≡ false → AtomVariables Q (substituted_atom var by atom)
    atom_replaced (Var number) h differs = leads number h differs
    atom_replaced (Param number) h differs = tt
    atom_replaced (App fun arg) h differs = replaced arg h

    row_replaced : {n : _} (row : Row_of-Mono n) → SumVariables P row → InList Q (substituted_monos var by row)
    row_replaced end_of-Mono h = tt
    row_replaced (more_of-Mono coef atom others) h = in_both Q _ (substituted_monos var by others) (part_in (is_variable var atom) coef atom (atom_replaced atom h.0)) (row_replaced others h.1)

    pub replaced : (term : Term) → Variables P term → Variables Q (substituted var by term)
    replaced (Term' shape monos constant) h = of_sum Q (substituted_monos var by monos) (constant +ℤ substituted_constants var by monos) (row_replaced monos h)

-- ---- numbers that are alike

module _ (P : ℕ → Type 0) (to other : ℕ → ℕ) (alike : (number : ℕ) → P number → to number ≡ other number) where
  mutual
    atom_alike : (atom : Atom) → AtomVariables P atom → renumbered_atom to atom ≡ renumbered_atom other atom
    atom_alike (Var number) h = ap Var (alike number h)
    atom_alike (Param number) h = refl
    atom_alike (App fun arg) h = ap (App fun) (renumbered_alike arg h)

    row_alike : {n : _} (row : Row_of-Mono n) → SumVariables P row → renumbered_monos to row ≡ renumbered_monos other row
    row_alike end_of-Mono h = refl
    row_alike (more_of-Mono coef atom others) h = λ i. record { coef = coef; atom = atom_alike atom h.0 i } ∷ row_alike others h.1 i

    pub renumbered_alike : (term : Term) → Variables P term → renumbered to term ≡ renumbered other term
    renumbered_alike (Term' shape monos constant) h = ap (λ (of : List Mono). roll-Term (record { monos = of; constant = constant })) (row_alike monos h)

mutual
  unfolding out-Term denote.Hole.Carrier.out

  atom_itself : (atom : Atom) → renumbered_atom (λ number. number) atom ≡ atom
  atom_itself (Var number) = refl
  atom_itself (Param number) = refl
  atom_itself (App fun arg) = ap (App fun) (itself arg)

  row_itself : {n : _} (row : Row_of-Mono n) → renumbered_monos (λ number. number) row ≡ items-the_row-Mono n row
  row_itself end_of-Mono = refl
  row_itself (more_of-Mono coef atom others) = λ i. record { coef = coef; atom = atom_itself atom i } ∷ row_itself others i

  pub itself : (term : Term) → renumbered (λ number. number) term ≡ term
  itself (Term' shape monos constant) =
      ap (λ (of : List Mono). roll-Term (record { monos = of; constant = constant })) (row_itself monos ∙ sym (items_shown-the_row-Mono-0 shape monos)) ∙ roll-out-Term (Term' shape monos constant)

-- the numbers of the variables stay
pub renumbered_same : (P : ℕ → Type 0) (to : ℕ → ℕ) → ((number : ℕ) → P number → to number ≡ number) → (term : Term) → Variables P term → renumbered to term ≡ term
renumbered_same P to alike term h = renumbered_alike P to (λ number. number) alike term h ∙ itself term
