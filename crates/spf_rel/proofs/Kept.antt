-- Variables of terms that are made normal, oriented, solved or substituted.
use Rattle.std.proofs.Common.{◌≡◌, ℕ, ℤ, pos, negsuc, ◌+ℤ◌, ◌*ℤ◌, List, [], ◌∷◌, ◌++◌, Bool, true, false, if◌then◌else◌, Option, None, Some, nat_eq, refl, ap, sym, subst}
use Rattle.std.proofs.lemmas.List.Elements.{All-from_recursion, recursion_from_All}
use Rattle.std.specs.List.{All, AllByRecursion}
use Rattle.std.specs.Option.{option_or}
use Rattle.std.specs.Ordering.{int_eq}
use Rattle.std.specs.declared.cmp.Ordering.{Ordering}
use Rattle.std.specs.declared.cmp.Ordering.TheVariants.{Less, Equal, Greater}
use Rattle.spf_term.specs.Normal.{added, by_order, normal, normal_atom, normal_monos}
use Rattle.spf_term.specs.Order.{atom_cmp}
use Rattle.spf_term.specs.Solution.{atom_mentions, can_solve, leads_negative, mentions, oriented, solution, solution_among, solved_at, sum_mentions, times}
use Rattle.spf_term.specs.Substitution.{is_variable, scaled, substituted, substituted_atom, substituted_constants, substituted_monos}
use Rattle.spf_term.specs.declared.solutions.Solution.{Solution}
use Rattle.spf_term.specs.declared.term.Atom.{Atom, Var, Param, App}
use Rattle.spf_term.specs.declared.term.Mono.{Mono}
use Rattle.spf_term.specs.declared.term.Term.{Term, Term', out-Term, roll-Term, out-roll-Term, Row_of-Mono, end_of-Mono, more_of-Mono}
use Rattle.spf_rel.specs.Renumbering.{AtomVariables, SumVariables, Variables}
use Rattle.spf_rel.proofs.Renumbered.{MonoVariables, sum_of, variables_are, variables_from}

module _ (P : ℕ → Type 0) where
  abbrev pub InList : List Mono → Type 0
  InList monos = AllByRecursion (MonoVariables P) monos

  pub of_sum : (monos : List Mono) (constant : ℤ) → InList monos → Variables P (sum_of (λ n. n) monos constant)
  of_sum monos constant h =
      variables_from P (roll-Term (record { monos = monos; constant = constant }))
      (subst (All (MonoVariables P)) (sym (ap (λ term. term.monos) (out-roll-Term (record { monos = monos; constant = constant })))) (All-from_recursion (MonoVariables P) monos h))

  pub in_term : (term : Term) → Variables P term → InList (out-Term term).monos
  in_term term h = recursion_from_All (MonoVariables P) (out-Term term).monos (variables_are P term h)

  pub in_both : (a b : List Mono) → InList a → InList b → InList (a ++ b)
  in_both [] b h k = k
  in_both (mono ∷ a) b h k = (h.0, in_both a b h.1 k)

  in_first : (a b : List Mono) → InList (a ++ b) → InList a
  in_first [] b h = tt
  in_first (mono ∷ a) b h = (h.0, in_first a b h.1)

  in_second : (a b : List Mono) → InList (a ++ b) → InList b
  in_second [] b h = h
  in_second (mono ∷ a) b h = in_second a b h.1

  -- ---- normal forms

  kept_in : (none : Bool) (coef : ℤ) (atom : Atom) (monos : List Mono) → AtomVariables P atom → InList monos → InList (if none then monos else record { coef = coef; atom = atom } ∷ monos)
  kept_in true coef atom monos is h = h
  kept_in false coef atom monos is h = (is, h)

  by_order_in : (order : Ordering) (less equal greater : List Mono) → InList less → InList equal → InList greater → InList (by_order order less equal greater)
  by_order_in Less less equal greater a b c = a
  by_order_in Equal less equal greater a b c = b
  by_order_in Greater less equal greater a b c = c

  added_in : (coef : ℤ) (atom : Atom) (monos : List Mono) → AtomVariables P atom → InList monos → InList (added coef atom monos)
  added_in coef atom [] is h = kept_in (int_eq coef (pos 0)) coef atom [] is h
  added_in coef atom (mono ∷ monos) is h =
      by_order_in (atom_cmp atom mono.atom) _ _ _ (kept_in (int_eq coef (pos 0)) coef atom (mono ∷ monos) is h)
      (kept_in (int_eq (coef +ℤ mono.coef) (pos 0)) (coef +ℤ mono.coef) mono.atom monos h.0 h.1) (h.0, added_in coef atom monos is h.1)

  mutual
    atom_normal : (atom : Atom) → AtomVariables P atom → AtomVariables P (normal_atom atom)
    atom_normal (Var number) h = h
    atom_normal (Param number) h = tt
    atom_normal (App fun arg) h = normal_kept arg h

    row_normal : {n : _} (row : Row_of-Mono n) → SumVariables P row → InList (normal_monos row)
    row_normal end_of-Mono h = tt
    row_normal (more_of-Mono coef atom others) h = added_in coef (normal_atom atom) (normal_monos others) (atom_normal atom h.0) (row_normal others h.1)

    pub normal_kept : (term : Term) → Variables P term → Variables P (normal term)
    normal_kept (Term' shape monos constant) h = of_sum (normal_monos monos) constant (row_normal monos h)

  -- ---- signs and solutions

  pub scaled_in : (factor : ℤ) (monos : List Mono) → InList monos → InList (scaled factor monos)
  scaled_in factor [] h = tt
  scaled_in factor (mono ∷ monos) h = (h.0, scaled_in factor monos h.1)

  times_kept : (factor : ℤ) (term : Term) → Variables P term → Variables P (times factor term)
  times_kept factor term h = of_sum (scaled factor (out-Term term).monos) (factor *ℤ (out-Term term).constant) (scaled_in factor (out-Term term).monos (in_term term h))

  oriented_by : (negative : Bool) (term : Term) → Variables P term → Variables P (if negative then times (negsuc 0) term else term)
  oriented_by true term h = times_kept (negsuc 0) term h
  oriented_by false term h = h

  pub oriented_kept : (term : Term) → Variables P term → Variables P (oriented term)
  oriented_kept term h = oriented_by (leads_negative (out-Term term).monos) term h

  module _ (low high : ℕ) (constant : ℤ) where
    at_var : (can : Bool) (number : ℕ) (coef : ℤ) (others : List Mono) (found : Solution) → InList others
        → (if can then Some (record { var = number; by = times (negsuc 0 *ℤ coef) (sum_of (λ n. n) others constant) }) else None) ≡ Some found → Variables P found.by
    at_var true number coef others found h is =
        let made : Solution = record { var = number; by = times (negsuc 0 *ℤ coef) (sum_of (λ n. n) others constant) } in
        let same : made ≡ found = cc in
        subst (λ (of : Solution). Variables P of.by) same (times_kept (negsuc 0 *ℤ coef) (sum_of (λ n. n) others constant) (of_sum others constant h))
    at_var false number coef others found h is = cc

    at_atom : (coef : ℤ) (atom : Atom) (others : List Mono) (found : Solution) → InList others → solved_at low high constant coef atom others ≡ Some found → Variables P found.by
    at_atom coef (Var number) others found h is = at_var (can_solve low high number coef others) number coef others found h is
    at_atom coef (Param number) others found h is = cc
    at_atom coef (App fun arg) others found h is = cc

    among_by : (first : Option Solution) (later : Option Solution) (found : Solution) → (first ≡ Some found → Variables P found.by) → (later ≡ Some found → Variables P found.by) → option_or first later ≡ Some found → Variables P found.by
    among_by (Some other) later found here there is = here is
    among_by None later found here there is = there is

    among : (before after : List Mono) (found : Solution) → InList before → InList after → solution_among low high constant before after ≡ Some found → Variables P found.by
    among before [] found h k is = cc
    among before (mono ∷ after) found h k is =
        among_by (solved_at low high constant mono.coef mono.atom (before ++ after)) (solution_among low high constant (before ++ mono ∷ []) after) found
        (at_atom mono.coef mono.atom (before ++ after) found (in_both before after h k.1)) (among (before ++ mono ∷ []) after found (in_both before (mono ∷ []) h (k.0, tt)) k.1) is

  pub solution_kept : (low high : ℕ) (term : Term) (found : Solution) → Variables P term → solution low high term ≡ Some found → Variables P found.by
  solution_kept low high term found h is = among low high (out-Term term).constant [] (out-Term term).monos found tt (in_term term h) is

  -- ---- substitutions

  module _ (var : ℕ) (by : Term) (by_is : Variables P by) where
    part_in : (is : Bool) (coef : ℤ) (atom : Atom) → AtomVariables P (substituted_atom var by atom) → InList (if is then scaled coef (out-Term by).monos else record { coef = coef; atom = substituted_atom var by atom } ∷ [])
    part_in true coef atom h = scaled_in coef (out-Term by).monos (in_term by by_is)
    part_in false coef atom h = (h, tt)

    mutual
      atom_substituted : (atom : Atom) → AtomVariables P atom → AtomVariables P (substituted_atom var by atom)
      atom_substituted (Var number) h = h
      atom_substituted (Param number) h = tt
      atom_substituted (App fun arg) h = substituted_kept arg h

      row_substituted : {n : _} (row : Row_of-Mono n) → SumVariables P row → InList (substituted_monos var by row)
      row_substituted end_of-Mono h = tt
      row_substituted (more_of-Mono coef atom others) h = in_both _ (substituted_monos var by others) (part_in (is_variable var atom) coef atom (atom_substituted atom h.0)) (row_substituted others h.1)

      pub substituted_kept : (term : Term) → Variables P term → Variables P (substituted var by term)
      substituted_kept (Term' shape monos constant) h = of_sum (substituted_monos var by monos) (constant +ℤ substituted_constants var by monos) (row_substituted monos h)

-- a variable that doesn't occur
module _ (P : ℕ → Type 0) (var : ℕ) where
  abbrev pub IsOther : ℕ → Type 0
  IsOther number = P number × (nat_eq number var ≡ false)

  either_false : (first second : Bool) → (if first then true else second) ≡ false → (first ≡ false) × (second ≡ false)
  either_false true second is = cc
  either_false false second is = (refl, is)

  mutual
    atom_others : (atom : Atom) → AtomVariables P atom → atom_mentions var atom ≡ false → AtomVariables IsOther atom
    atom_others (Var number) h none = (h, none)
    atom_others (Param number) h none = tt
    atom_others (App fun arg) h none = others_kept arg h none

    row_others : {n : _} (row : Row_of-Mono n) → SumVariables P row → sum_mentions var row ≡ false → SumVariables IsOther row
    row_others end_of-Mono h none = tt
    row_others (more_of-Mono coef atom others) h none =
        let parts = either_false (atom_mentions var atom) (sum_mentions var others) none in
        (atom_others atom h.0 parts.0, row_others others h.1 parts.1)

    pub others_kept : (term : Term) → Variables P term → mentions var term ≡ false → Variables IsOther term
    others_kept (Term' shape monos constant) h none = row_others monos h none
