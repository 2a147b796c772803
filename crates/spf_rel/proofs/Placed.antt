-- Terms in place of variables that were moved out of the way: as the first term in place of the first variable.
use Rattle.std.proofs.Common.{◌≡◌, ℕ, zero, suc, ◌+◌, ◌<◌, ℤ, pos, ◌+ℤ◌, ◌*ℤ◌, List, [], ◌∷◌, ◌++◌, true, false, if◌then◌else◌, nat_eq, refl, ap, sym, ◌∙◌, append_assoc, arith}
use Rattle.std.proofs.Math.IntN.{*ℤ-zero, *ℤ_comm, +ℤ_idl, +ℤ_idr, suc_ℤ-*ℤ, zero-*ℤ}
use Rattle.std.proofs.lemmas.Bool.Decides.{nat_tests}
use Rattle.std.proofs.lemmas.Int.{ints}
use Rattle.spf_term.specs.Substitution.{is_variable, scaled, substituted, substituted_atom, substituted_constants, substituted_monos}
use Rattle.spf_term.specs.declared.term.Atom.{Atom, Var, Param, App}
use Rattle.spf_term.specs.declared.term.Mono.{Mono}
use Rattle.spf_term.specs.declared.term.Term.{Term, Term', out-Term, out-roll-Term, Row_of-Mono, end_of-Mono, more_of-Mono, items-the_row-Mono, items_shown-the_row-Mono-0}
use Rattle.spf_rel.specs.Graph.{shifted}
use Rattle.spf_rel.specs.Renumbering.{AtomVariables, SumVariables, Variables, renumbered_atom, renumbered_monos}
use Rattle.spf_rel.proofs.Kept.{InList, in_term}
use Rattle.spf_rel.proofs.Renumbered.{sum_of}
use Rattle.spf_rel.proofs.Replaced.{atom_untouched, no_variable}

-- ---- a term in place of a variable, said of monomials as lists

module _ (var : ℕ) (by : Term) where
  abbrev part : Mono → List Mono
  part mono = if is_variable var mono.atom then scaled mono.coef (out-Term by).monos else record { coef = mono.coef; atom = substituted_atom var by mono.atom } ∷ []

  abbrev constant_of : Mono → ℤ
  constant_of mono = if is_variable var mono.atom then mono.coef *ℤ (out-Term by).constant else pos 0

  abbrev parts : List Mono → List Mono
  parts [] = []
  parts (mono ∷ monos) = part mono ++ parts monos

  abbrev constants : List Mono → ℤ
  constants [] = pos 0
  constants (mono ∷ monos) = constant_of mono +ℤ constants monos

  row_parts : {n : _} (row : Row_of-Mono n) → substituted_monos var by row ≡ parts (items-the_row-Mono n row)
  row_parts end_of-Mono = refl
  row_parts (more_of-Mono coef atom others) = ap (λ more. part (record { coef = coef; atom = atom }) ++ more) (row_parts others)

  row_constants : {n : _} (row : Row_of-Mono n) → substituted_constants var by row ≡ constants (items-the_row-Mono n row)
  row_constants end_of-Mono = refl
  row_constants (more_of-Mono coef atom others) = ap (λ (more : ℤ). constant_of (record { coef = coef; atom = atom }) +ℤ more) (row_constants others)

  substituted_is : (term : Term) → substituted var by term ≡ sum_of (λ n. n) (parts (out-Term term).monos) ((out-Term term).constant +ℤ constants (out-Term term).monos)
  unfolding out-Term denote.Hole.Carrier.out
  substituted_is (Term' shape monos constant) =
      λ i. sum_of (λ n. n) ((row_parts monos ∙ ap parts (sym (items_shown-the_row-Mono-0 shape monos))) i) (constant +ℤ (row_constants monos ∙ ap constants (sym (items_shown-the_row-Mono-0 shape monos))) i)

  substituted_sum : (monos : List Mono) (constant : ℤ) → substituted var by (sum_of (λ n. n) monos constant) ≡ sum_of (λ n. n) (parts monos) (constant +ℤ constants monos)
  substituted_sum monos constant =
      substituted_is (sum_of (λ n. n) monos constant)
      ∙ ap (λ term. sum_of (λ n. n) (parts term.monos) (term.constant +ℤ constants term.monos)) (out-roll-Term (record { monos = monos; constant = constant }))

  parts_both : (front back : List Mono) → parts (front ++ back) ≡ parts front ++ parts back
  parts_both [] back = refl
  parts_both (mono ∷ front) back = ap (λ more. part mono ++ more) (parts_both front back) ∙ sym (append_assoc (part mono) (parts front) (parts back))

  constants_both : (front back : List Mono) → constants (front ++ back) ≡ constants front +ℤ constants back
  constants_both [] back = sym (+ℤ_idl (constants back))
  constants_both (mono ∷ front) back = let more = constants_both front back in omega (arith, ints, more)

  -- where the variable doesn't occur
  module _ (P : ℕ → Type 0) (never : P var → ⊥) where
    scaled_same : (coef : ℤ) (monos : List Mono) → InList P monos → parts (scaled coef monos) ≡ scaled coef monos
    scaled_same coef [] h = refl
    scaled_same coef (mono ∷ monos) h =
        let here : part (record { coef = coef *ℤ mono.coef; atom = mono.atom }) ≡ record { coef = coef *ℤ mono.coef; atom = mono.atom } ∷ [] =
        ap (λ test. if test then scaled (coef *ℤ mono.coef) (out-Term by).monos else record { coef = coef *ℤ mono.coef; atom = substituted_atom var by mono.atom } ∷ []) (no_variable P var never by mono.atom h.0)
        ∙ ap (λ atom. record { coef = coef *ℤ mono.coef; atom = atom } ∷ []) (atom_untouched P var never by mono.atom h.0) in
        λ i. here i ++ scaled_same coef monos h.1 i

    scaled_nothing : (coef : ℤ) (monos : List Mono) → InList P monos → constants (scaled coef monos) ≡ pos 0
    scaled_nothing coef [] h = refl
    scaled_nothing coef (mono ∷ monos) h =
        ap (λ test. (if test then (coef *ℤ mono.coef) *ℤ (out-Term by).constant else pos 0) +ℤ constants (scaled coef monos)) (no_variable P var never by mono.atom h.0)
        ∙ +ℤ_idl (constants (scaled coef monos)) ∙ scaled_nothing coef monos h.1

-- ---- two variables

times_one : (number : ℤ) → pos 1 *ℤ number ≡ number
times_one number = let e = suc_ℤ-*ℤ (pos 0) number in let z = zero-*ℤ number in omega (arith, ints, e, z)

crossed : (a b c d : ℤ) → (a +ℤ b) +ℤ (c +ℤ d) ≡ (a +ℤ c) +ℤ (b +ℤ d)
crossed a b c d = omega (arith, ints)

grouped : (a b c : ℤ) → (a +ℤ b) +ℤ c ≡ a +ℤ (b +ℤ c)
grouped a b c = omega (arith, ints)

module _ (start : ℕ) (by inner : Term) (below : Variables (λ number. number < start) by)
    (inner_is : (out-Term inner).monos ≡ record { coef = pos 1; atom = Var 1 } ∷ []) (inner_none : (out-Term inner).constant ≡ pos 0) where
  abbrev first : List Mono → List Mono
  first = parts start by

  abbrev second : List Mono → List Mono
  second = parts (start + 1) inner

  abbrev whole : List Mono → List Mono
  whole = parts 0 by

  -- what is left of the constants
  abbrev sum_first : List Mono → ℤ
  sum_first monos = constants start by monos +ℤ constants (start + 1) inner (first monos)

  record Alike (moved kept : Mono) : Type 0 where
    pub monos : second (part start by moved) ≡ part 0 by kept
    pub sum : constant_of start by moved +ℤ constants (start + 1) inner (part start by moved) ≡ constant_of 0 by kept

  others_by : (coef : ℤ) (a b : Atom) → is_variable start a ≡ false → is_variable (start + 1) (substituted_atom start by a) ≡ false → is_variable 0 b ≡ false
      → substituted_atom (start + 1) inner (substituted_atom start by a) ≡ substituted_atom 0 by b → Alike (record { coef = coef; atom = a }) (record { coef = coef; atom = b })
  others_by coef a b apart later first' same = record {
    monos = ap (λ test. second (if test then scaled coef (out-Term by).monos else record { coef = coef; atom = substituted_atom start by a } ∷ [])) apart
        ∙ ap (λ test. (if test then scaled coef (out-Term inner).monos else record { coef = coef; atom = substituted_atom (start + 1) inner (substituted_atom start by a) } ∷ []) ++ []) later
        ∙ ap (λ atom. record { coef = coef; atom = atom } ∷ []) same
        ∙ sym (ap (λ test. if test then scaled coef (out-Term by).monos else record { coef = coef; atom = substituted_atom 0 by b } ∷ []) first');
    sum = ap (λ test. (if test then coef *ℤ (out-Term by).constant else pos 0) +ℤ constants (start + 1) inner (if test then scaled coef (out-Term by).monos else record { coef = coef; atom = substituted_atom start by a } ∷ [])) apart
        ∙ ap (λ test. pos 0 +ℤ ((if test then coef *ℤ (out-Term inner).constant else pos 0) +ℤ pos 0)) later
        ∙ sym (ap (λ test. if test then coef *ℤ (out-Term by).constant else pos 0) first');
  }

  one_coef : (coef : ℤ) → coef *ℤ pos 1 ≡ coef
  one_coef coef = *ℤ_comm coef (pos 1) ∙ times_one coef

  abbrev to : ℕ → ℕ
  to number = start + number

  above : start + 1 < start → ⊥
  above less = omega (arith, less)

  mutual
    alike : (coef : ℤ) (atom : Atom) → AtomVariables (λ number. number < 2) atom → Alike (record { coef = coef; atom = renumbered_atom to atom }) (record { coef = coef; atom = atom })
    alike coef (Var zero) h =
        let here : nat_eq (start + 0) start ≡ true = grind (arith, nat_tests) in
        let list = in_term (λ number. number < start) by below in
        record {
          monos = ap (λ test. second (if test then scaled coef (out-Term by).monos else record { coef = coef; atom = Var (start + 0) } ∷ [])) here
              ∙ scaled_same (start + 1) inner (λ number. number < start) above coef (out-Term by).monos list;
          sum = ap (λ test. (if test then coef *ℤ (out-Term by).constant else pos 0) +ℤ constants (start + 1) inner (if test then scaled coef (out-Term by).monos else record { coef = coef; atom = Var (start + 0) } ∷ [])) here
              ∙ ap (λ (more : ℤ). (coef *ℤ (out-Term by).constant) +ℤ more) (scaled_nothing (start + 1) inner (λ number. number < start) above coef (out-Term by).monos list)
              ∙ +ℤ_idr (coef *ℤ (out-Term by).constant);
        }
    alike coef (Var (suc zero)) h =
        let apart : nat_eq (start + 1) start ≡ false = grind (arith, nat_tests) in
        let here : nat_eq (start + 1) (start + 1) ≡ true = grind (arith, nat_tests) in
        record {
          monos = ap (λ test. second (if test then scaled coef (out-Term by).monos else record { coef = coef; atom = Var (start + 1) } ∷ [])) apart
              ∙ ap (λ test. (if test then scaled coef (out-Term inner).monos else record { coef = coef; atom = Var (start + 1) } ∷ []) ++ []) here
              ∙ ap (λ monos. scaled coef monos ++ []) inner_is
              ∙ ap (λ (of : ℤ). record { coef = of; atom = Var 1 } ∷ []) (one_coef coef);
          sum = ap (λ test. (if test then coef *ℤ (out-Term by).constant else pos 0) +ℤ constants (start + 1) inner (if test then scaled coef (out-Term by).monos else record { coef = coef; atom = Var (start + 1) } ∷ [])) apart
              ∙ ap (λ test. pos 0 +ℤ ((if test then coef *ℤ (out-Term inner).constant else pos 0) +ℤ pos 0)) here
              ∙ ap (λ (of : ℤ). pos 0 +ℤ ((coef *ℤ of) +ℤ pos 0)) inner_none
              ∙ ap (λ (of : ℤ). pos 0 +ℤ (of +ℤ pos 0)) (*ℤ-zero coef);
        }
    alike coef (Var (suc (suc number))) h = absurd (omega (arith, h))
    alike coef (Param number) h = others_by coef (Param number) (Param number) refl refl refl refl
    alike coef (App fun arg) h = others_by coef (App fun (shifted start arg)) (App fun arg) refl refl refl (ap (App fun) (placed arg h))

    row_alike : {n : _} (row : Row_of-Mono n) → SumVariables (λ number. number < 2) row → second (first (renumbered_monos to row)) ≡ substituted_monos 0 by row
    row_alike end_of-Mono h = refl
    row_alike (more_of-Mono coef atom others) h =
        parts_both (start + 1) inner (part start by (record { coef = coef; atom = renumbered_atom to atom })) (first (renumbered_monos to others))
        ∙ (λ i. (alike coef atom h.0).monos i ++ row_alike others h.1 i)

    row_sums : {n : _} (row : Row_of-Mono n) → SumVariables (λ number. number < 2) row → sum_first (renumbered_monos to row) ≡ substituted_constants 0 by row
    row_sums end_of-Mono h = refl
    row_sums (more_of-Mono coef atom others) h =
        let moved : Mono = record { coef = coef; atom = renumbered_atom to atom } in
        let more = renumbered_monos to others in
        ap (λ (sum : ℤ). (constant_of start by moved +ℤ constants start by more) +ℤ sum) (constants_both (start + 1) inner (part start by moved) (first more))
        ∙ crossed (constant_of start by moved) (constants start by more) (constants (start + 1) inner (part start by moved)) (constants (start + 1) inner (first more))
        ∙ (λ i. (alike coef atom h.0).sum i +ℤ row_sums others h.1 i)

    pub placed : (term : Term) → Variables (λ number. number < 2) term → substituted (start + 1) inner (substituted start by (shifted start term)) ≡ substituted 0 by term
    placed (Term' shape monos constant) h =
        let moved = renumbered_monos to monos in
        ap (substituted (start + 1) inner) (substituted_sum start by moved constant)
        ∙ substituted_sum (start + 1) inner (first moved) (constant +ℤ constants start by moved)
        ∙ ap (sum_of (λ n. n) (second (first moved))) (grouped constant (constants start by moved) (constants (start + 1) inner (first moved)))
        ∙ (λ i. sum_of (λ n. n) (row_alike monos h i) (constant +ℤ row_sums monos h i))
