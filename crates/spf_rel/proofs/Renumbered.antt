-- Renumbered terms, said of their monomials as lists: what holds of their variables, and their values.
use Rattle.std.proofs.Common.{◌≡◌, ℕ, ◌<◌, ℤ, pos, ◌+ℤ◌, ◌*ℤ◌, List, ◌∷◌, length, get_or, map, refl, ap, sym, ◌∙◌, subst}
use Rattle.std.specs.List.{All}
use Rattle.std.proofs.lemmas.List.Elements.{All-nil, All-cons, All-head, All-map, All-same, All-tail, All-weaker}
use Rattle.spf_term.specs.Environment.{Environment}
use Rattle.spf_term.specs.Value.{value, sum_value, atom_value, number_at, table_at}
use Rattle.spf_term.specs.declared.term.Atom.{Atom, Var, Param, App}
use Rattle.spf_term.specs.declared.term.Mono.{Mono}
use Rattle.spf_term.specs.declared.term.Term.{Term, Term', out-Term, roll-Term, out-roll-Term, Row_of-Mono, end_of-Mono, more_of-Mono, items-the_row-Mono, items_shown-the_row-Mono-0}
use Rattle.spf_term.proofs.Monos.{list_value, value_is}
use Rattle.spf_rel.proofs.Pairs.{all_from_map}
use Rattle.spf_rel.specs.Renumbering.{Variables, SumVariables, AtomVariables, renumbered, renumbered_monos, renumbered_atom}

-- ---- variables

module _ (P : ℕ → Type 0) where
  abbrev pub MonoVariables : Mono → Type 0
  MonoVariables mono = AtomVariables P mono.atom

  row_variables : {n : _} (row : Row_of-Mono n) → SumVariables P row → All MonoVariables (items-the_row-Mono n row)
  row_variables end_of-Mono h = All-nil MonoVariables
  row_variables (more_of-Mono coef atom others) h = All-cons MonoVariables _ _ h.0 (row_variables others h.1)

  in_row : {n : _} (row : Row_of-Mono n) → All MonoVariables (items-the_row-Mono n row) → SumVariables P row
  in_row end_of-Mono h = tt
  in_row (more_of-Mono coef atom others) h = (All-head MonoVariables _ _ h, in_row others (All-tail MonoVariables _ _ h))

  pub variables_are : (term : Term) → Variables P term → All MonoVariables (out-Term term).monos
  unfolding out-Term denote.Hole.Carrier.out
  variables_are (Term' shape monos constant) h = subst (All MonoVariables) (sym (items_shown-the_row-Mono-0 shape monos)) (row_variables monos h)

  pub variables_from : (term : Term) → All MonoVariables (out-Term term).monos → Variables P term
  unfolding out-Term denote.Hole.Carrier.out
  variables_from (Term' shape monos constant) h = in_row monos (subst (All MonoVariables) (items_shown-the_row-Mono-0 shape monos) h)

  -- at one of the monomials
  pub at_mono : (term : Term) → Variables P term → (monos : List Mono) → monos ≡ (out-Term term).monos → (index : ℕ) (mono : Mono) → index < length monos → mono ≡ get_or monos index mono → AtomVariables P mono.atom
  at_mono term h monos are index mono inside is =
      subst MonoVariables (sym is) (All-same MonoVariables monos (out-Term term).monos are (variables_are term h) index mono inside)

-- what holds of each number
module _ (P Q : ℕ → Type 0) (leads : (number : ℕ) → P number → Q number) where
  mutual
    atom_weaker : (atom : Atom) → AtomVariables P atom → AtomVariables Q atom
    atom_weaker (Var number) h = leads number h
    atom_weaker (Param number) h = tt
    atom_weaker (App fun arg) h = weaker arg h

    row_weaker : {n : _} (row : Row_of-Mono n) → SumVariables P row → SumVariables Q row
    row_weaker end_of-Mono h = tt
    row_weaker (more_of-Mono coef atom others) h = (atom_weaker atom h.0, row_weaker others h.1)

    pub weaker : (term : Term) → Variables P term → Variables Q term
    weaker (Term' shape monos constant) h = row_weaker monos h

  pub all_weaker : (terms : List Term) → All (Variables P) terms → All (Variables Q) terms
  all_weaker terms h = All-weaker (Variables P) (Variables Q) weaker terms h

-- ---- new numbers

module _ (to : ℕ → ℕ) where
  abbrev pub renumbered_mono : Mono → Mono
  renumbered_mono mono = record { coef = mono.coef; atom = renumbered_atom to mono.atom }

  row_renumbered : {n : _} (row : Row_of-Mono n) → renumbered_monos to row ≡ map renumbered_mono (items-the_row-Mono n row)
  row_renumbered end_of-Mono = refl
  row_renumbered (more_of-Mono coef atom others) = ap (λ (monos : List Mono). record { coef = coef; atom = renumbered_atom to atom } ∷ monos) (row_renumbered others)

  abbrev pub sum_of : List Mono → ℤ → Term
  sum_of monos constant = roll-Term (record { monos = monos; constant = constant })

  pub renumbered_is : (term : Term) → renumbered to term ≡ sum_of (map renumbered_mono (out-Term term).monos) (out-Term term).constant
  unfolding out-Term denote.Hole.Carrier.out
  renumbered_is (Term' shape monos constant) = ap (λ (of : List Mono). sum_of of constant) (row_renumbered monos ∙ ap (map renumbered_mono) (sym (items_shown-the_row-Mono-0 shape monos)))

  -- what holds of the new numbers
  module _ (P Q : ℕ → Type 0) (leads : (number : ℕ) → P number → Q (to number)) where
    mutual
      atom_leads : (atom : Atom) → AtomVariables P atom → AtomVariables Q (renumbered_atom to atom)
      atom_leads (Var number) h = leads number h
      atom_leads (Param number) h = tt
      atom_leads (App fun arg) h = renumbered_leads arg h

      row_leads : {n : _} (row : Row_of-Mono n) → SumVariables P row → All (MonoVariables Q) (renumbered_monos to row)
      row_leads end_of-Mono h = All-nil (MonoVariables Q)
      row_leads (more_of-Mono coef atom others) h = All-cons (MonoVariables Q) _ _ (atom_leads atom h.0) (row_leads others h.1)

      pub renumbered_leads : (term : Term) → Variables P term → Variables Q (renumbered to term)
      renumbered_leads (Term' shape monos constant) h =
          variables_from Q (sum_of (renumbered_monos to monos) constant)
          (subst (All (MonoVariables Q)) (sym (ap (λ term. term.monos) (out-roll-Term (record { monos = renumbered_monos to monos; constant = constant })))) (row_leads monos h))

    pub all_lead : (terms : List Term) → All (Variables P) terms → All (Variables Q) (map (renumbered to) terms)
    all_lead terms h = All-map (Variables Q) (renumbered to) terms (All-weaker (Variables P) (λ term. Variables Q (renumbered to term)) renumbered_leads terms h)

  -- where the new numbers have the values of the old ones, so have the terms
  module _ (env : Environment) (old new : List ℤ) (P : ℕ → Type 0) (same : (number : ℕ) → P number → number_at new (pos (to number)) ≡ number_at old (pos number)) where
    mutual
      atom_kept : (atom : Atom) → AtomVariables P atom → atom_value env new (renumbered_atom to atom) ≡ atom_value env old atom
      atom_kept (Var number) h = same number h
      atom_kept (Param number) h = refl
      atom_kept (App fun arg) h = ap (number_at (table_at env fun)) (value_kept arg h)

      row_kept : {n : _} (row : Row_of-Mono n) → SumVariables P row → list_value env new (renumbered_monos to row) ≡ sum_value env old row
      row_kept end_of-Mono h = refl
      row_kept (more_of-Mono coef atom others) h = λ i. (coef *ℤ atom_kept atom h.0 i) +ℤ row_kept others h.1 i

      pub value_kept : (term : Term) → Variables P term → value env new (renumbered to term) ≡ value env old term
      value_kept (Term' shape monos constant) h =
          value_is env new (sum_of (renumbered_monos to monos) constant)
          ∙ ap (λ term. list_value env new term.monos +ℤ term.constant) (out-roll-Term (record { monos = renumbered_monos to monos; constant = constant }))
          ∙ ap (λ (sum : ℤ). sum +ℤ constant) (row_kept monos h)

    -- what holds of the values of terms
    module _ (R : ℤ → Type 0) where
      pub all_kept : (terms : List Term) → All (Variables P) terms → All (λ (term : Term). R (value env old term)) terms → All (λ (term : Term). R (value env new term)) (map (renumbered to) terms)
      all_kept terms h holds = All-map (λ (term : Term). R (value env new term)) (renumbered to) terms (λ k d inside. subst R (sym (value_kept (get_or terms k d) (h k d inside))) (holds k d inside))

      pub all_came : (terms : List Term) → All (Variables P) terms → All (λ (term : Term). R (value env new term)) (map (renumbered to) terms) → All (λ (term : Term). R (value env old term)) terms
      all_came terms h holds = λ k d inside. subst R (value_kept (get_or terms k d) (h k d inside)) (all_from_map (renumbered to) (λ (term : Term). R (value env new term)) terms holds k d inside)
