-- Terms and values, told of the parts of the raw tree as lists.
use Rattle.spf_kernel.proofs.Common.{◌≡◌, ℕ, List, ◌++◌, flat_map, Option, None, Some, is_some, refl, ap, ◌∙◌, sym, Term, roll-Term, Mono, Token, Scope, RawIx, RawIx', Row_of-RawStep, end_of-RawStep, more_of-RawStep, items-the_row-RawStep, items_shown-the_row-RawStep-1, RawStep, RawAtom, RawAtom', end_of-RawIx, more_of-RawIx, RawAtom-at-None', RawAtom-at-Some', text_of, variables_in, Names, constant_of, variable_of, table_of, bare_atom, term_of, more_monos, monos_of, atom_of, ◌∷◌, map, RawValue, RawValue', Row_of-RawFactor, end_of-RawFactor, more_of-RawFactor, items-the_row-RawFactor, items_shown-the_row-RawFactor-1, Row_of-RawSummand, end_of-RawSummand, more_of-RawSummand, items-the_row-RawSummand, items_shown-the_row-RawSummand-2, RawSummand, roll-Value, Prod, Factor, product, more_factors, more_prods, factor_of, inside, wrap, Atom, out-RawIx, out-RawAtom, out-RawValue, value_of}
use Rattle.spf_kernel.specs.declared.raw.RawFactor.{Paren}

module _ (texts : List (List ℕ)) (names : Names) (scope : Scope) where
  abbrev pub step_monos : RawStep → List Mono
  step_monos step = monos_of texts names scope (is_some step.minus) step.mono

  more_are : {n : _} (row : Row_of-RawStep n) → more_monos texts names scope row ≡ flat_map step_monos (items-the_row-RawStep n row)
  more_are end_of-RawStep = refl
  more_are (more_of-RawStep minus mono others) = ap (λ (monos : List Mono). monos_of texts names scope (is_some minus) mono ++ monos) (more_are others)

  abbrev pub term_with : RawIx → List Mono → Term
  term_with ix monos = roll-Term (record { monos = monos; constant = wrap (constant_of ix) })

  pub term_is : (ix : RawIx) → term_of texts names scope ix ≡ term_with ix (flat_map step_monos (out-RawIx ix).steps)
  unfolding out-RawIx denote.Hole.Carrier.out
  term_is (RawIx' shape steps) = ap (term_with (RawIx' shape steps)) (more_are steps ∙ ap (flat_map step_monos) (sym (items_shown-the_row-RawStep-1 shape steps)))

  -- a name with what stands in the brackets behind it
  abbrev pub atom_at : Token → Option RawIx → Atom
  atom_at name None = bare_atom texts names (variable_of (variables_in texts scope) (text_of texts name)) name
  atom_at name (Some ix) = Atom.App (table_of texts names name) (term_of texts names scope ix)

  pub atom_is_at : (atom : RawAtom) → atom_of texts names scope atom ≡ atom_at (out-RawAtom atom).name (out-RawAtom atom).at
  unfolding out-RawAtom denote.Hole.Carrier.out Rattle.spf_kernel.specs.declared.raw.RawMono.TheBlock.shown-the_row-RawIx-0 denote.Hole.Carrier.shown
  atom_is_at (RawAtom' name RawAtom-at-None') = refl
  atom_is_at (RawAtom' name (RawAtom-at-Some' shape (more_of-RawIx ix end_of-RawIx))) = refl

module _ (texts : List (List ℕ)) (names : Names) (scope : Scope) where
  abbrev pub summand_of : RawSummand → Prod
  summand_of summand = product summand.minus (map (factor_of texts names scope) summand.facts)

  factors_are : {n : _} (row : Row_of-RawFactor n) → more_factors texts names scope row ≡ map (factor_of texts names scope) (items-the_row-RawFactor n row)
  factors_are end_of-RawFactor = refl
  factors_are (more_of-RawFactor fact others) = ap (λ (facts : List Factor). factor_of texts names scope fact ∷ facts) (factors_are others)

  prods_are : {n : _} (row : Row_of-RawSummand n) → more_prods texts names scope row ≡ map summand_of (items-the_row-RawSummand n row)
  prods_are end_of-RawSummand = refl
  prods_are (more_of-RawSummand minus shape facts others) =
      let shown = factors_are facts ∙ ap (map (factor_of texts names scope)) (sym (items_shown-the_row-RawFactor-1 shape facts)) in
      λ i. product minus (shown i) ∷ prods_are others i

  pub value_is : (value : RawValue) → value_of texts names scope value ≡ roll-Value (record { prods = map summand_of (out-RawValue value).summands })
  unfolding out-RawValue denote.Hole.Carrier.out
  value_is (RawValue' shape summands) =
      ap (λ (prods : List Prod). roll-Value (record { prods = prods })) (prods_are summands ∙ ap (map summand_of) (sym (items_shown-the_row-RawSummand-2 shape summands)))

  -- a value in parentheses
  pub paren_is : (inside : RawValue) → factor_of texts names scope (Paren inside) ≡ Factor.Paren (value_of texts names scope inside)
  unfolding Rattle.spf_kernel.specs.declared.raw.RawFactor.TheBlock.hidden-the_row-RawValue-0 denote.Hole.Carrier.hidden
  paren_is inside = refl
