-- How many applications composed terms have.
use Rattle.std.proofs.Common.{◌≡◌, ℕ, ◌+◌, ◌*◌, ◌≤◌, ℤ, ◌+ℤ◌, Bool, true, false, List, [], ◌∷◌, ◌++◌, refl, ap, ◌∙◌, arith}
use Rattle.std.specs.Prelude.{if◌then◌else◌, pos}
use Rattle.std.specs.Ordering.{int_eq}
use Rattle.std.specs.declared.cmp.Ordering.{Ordering}
use Rattle.std.specs.declared.cmp.Ordering.TheVariants.{Less, Equal, Greater}
use Rattle.spf_term.specs.Bounded.{atom_monomials, monomials, sum_monomials}
use Rattle.spf_term.specs.Normal.{added, by_order, kept, normal, normal_atom, normal_monos}
use Rattle.spf_term.specs.Order.{atom_cmp}
use Rattle.spf_term.specs.Substitution.{is_variable, scaled, substituted, substituted_atom, substituted_constants, substituted_monos}
use Rattle.spf_term.specs.Value.{applications, atom_applications, sum_applications}
use Rattle.spf_term.specs.declared.term.Atom.{Atom, Var, Param, App}
use Rattle.spf_term.specs.declared.term.Mono.{Mono}
use Rattle.spf_term.specs.declared.term.Term.{Term, Term', out-Term, roll-Term, out-roll-Term, Row_of-Mono, end_of-Mono, more_of-Mono}
use Rattle.spf_exec.specs.Composed.{variable}
use Rattle.spf_term.proofs.Monos.{applications_are, list_applications}
use Rattle.spf_term.proofs.Numbers.{list_monomials, monomials_are}

mutual
  pub few_applications : (term : Term) → applications term ≤ monomials term
  few_applications (Term' shape monos constant) = few_in monos

  few_in : {n : _} (row : Row_of-Mono n) → sum_applications row ≤ sum_monomials row
  few_in end_of-Mono = omega arith
  few_in (more_of-Mono coef atom others) = let first = few_of atom in let rest = few_in others in omega (arith, first, rest)

  few_of : (atom : Atom) → atom_applications atom ≤ 1 + atom_monomials atom
  few_of (Var number) = omega arith
  few_of (Param number) = omega arith
  few_of (App fun arg) = let inside = few_applications arg in omega (arith, inside)

pub rolled_applications : (monos : List Mono) (constant : ℤ) → applications (roll-Term (record { monos = monos; constant = constant })) ≡ list_applications monos
rolled_applications monos constant =
    applications_are (roll-Term (record { monos = monos; constant = constant })) ∙ ap (λ term. list_applications term.monos) (out-roll-Term (record { monos = monos; constant = constant }))

pub variable_alone : (n : ℕ) → monomials (variable n) ≡ 1
variable_alone n =
    monomials_are (variable n) ∙ ap (λ term. list_monomials term.monos) (out-roll-Term (record { monos = record { coef = pos 1; atom = Var n } ∷ []; constant = pos 0 })) ∙ omega arith

-- ---- normal forms

kept_few : (coef : ℤ) (atom : Atom) (monos : List Mono) → list_applications (kept coef atom monos) ≤ atom_applications atom + list_applications monos
kept_few coef atom monos = choose (int_eq coef (pos 0)) where
  choose : (none : Bool) → list_applications (if none then monos else record { coef = coef; atom = atom } ∷ monos) ≤ atom_applications atom + list_applications monos
  choose true = omega arith
  choose false = omega arith

ordered_few : (order : Ordering) (less equal greater : List Mono) (most : ℕ) → list_applications less ≤ most → list_applications equal ≤ most → list_applications greater ≤ most →
    list_applications (by_order order less equal greater) ≤ most
ordered_few Less less equal greater most p q r = p
ordered_few Equal less equal greater most p q r = q
ordered_few Greater less equal greater most p q r = r

added_few : (coef : ℤ) (atom : Atom) (monos : List Mono) → list_applications (added coef atom monos) ≤ atom_applications atom + list_applications monos
added_few coef atom [] = kept_few coef atom []
added_few coef atom (mono ∷ monos) =
    let first = kept_few coef atom (mono ∷ monos) in
    let second = kept_few (coef +ℤ mono.coef) mono.atom monos in
    let rest = added_few coef atom monos in
    ordered_few (atom_cmp atom mono.atom) (kept coef atom (mono ∷ monos)) (kept (coef +ℤ mono.coef) mono.atom monos) (mono ∷ added coef atom monos) (atom_applications atom + list_applications (mono ∷ monos))
    first (omega (arith, second)) (omega (arith, rest))

mutual
  pub normal_few : (term : Term) → applications (normal term) ≤ applications term
  normal_few (Term' shape monos constant) = let is = rolled_applications (normal_monos monos) constant in let row = row_few monos in omega (arith, is, row)

  row_few : {n : _} (row : Row_of-Mono n) → list_applications (normal_monos row) ≤ sum_applications row
  row_few end_of-Mono = omega arith
  row_few (more_of-Mono coef atom others) =
      let first = added_few coef (normal_atom atom) (normal_monos others) in let here = atom_few atom in let rest = row_few others in omega (arith, first, here, rest)

  atom_few : (atom : Atom) → atom_applications (normal_atom atom) ≤ atom_applications atom
  atom_few (Var number) = omega arith
  atom_few (Param number) = omega arith
  atom_few (App fun arg) = let inside = normal_few arg in omega (arith, inside)

-- ---- a term in place of a variable

both_count : (monos others : List Mono) → list_applications (monos ++ others) ≡ list_applications monos + list_applications others
both_count [] others = omega arith
both_count (mono ∷ monos) others = let rest = both_count monos others in omega (arith, rest)

scaled_count : (coef : ℤ) (monos : List Mono) → list_applications (scaled coef monos) ≡ list_applications monos
scaled_count coef [] = refl
scaled_count coef (mono ∷ monos) = ap (λ rest. atom_applications mono.atom + rest) (scaled_count coef monos)

either_few : (is : Bool) (monos others : List Mono) (most : ℕ) → list_applications monos ≤ most → list_applications others ≤ most → list_applications (if is then monos else others) ≤ most
either_few true monos others most p q = p
either_few false monos others most p q = q

module _ (var : ℕ) (by : Term) (few : applications by ≤ 64) where
  mutual
    pub substituted_few : (term : Term) → applications (substituted var by term) ≤ 64 * monomials term
    substituted_few (Term' shape monos constant) =
        let is = rolled_applications (substituted_monos var by monos) (constant +ℤ substituted_constants var by monos) in let row = monos_few monos in omega (arith, is, row)

    monos_few : {n : _} (row : Row_of-Mono n) → list_applications (substituted_monos var by row) ≤ 64 * sum_monomials row
    monos_few end_of-Mono = omega arith
    monos_few (more_of-Mono coef atom others) =
        let here = if is_variable var atom then scaled coef (out-Term by).monos else record { coef = coef; atom = substituted_atom var by atom } ∷ [] in
        let replaced : list_applications (scaled coef (out-Term by).monos) ≤ 64 * (1 + atom_monomials atom) = omega (arith, scaled_count coef (out-Term by).monos, applications_are by, few) in
        let kept_there : list_applications (record { coef = coef; atom = substituted_atom var by atom } ∷ []) ≤ 64 * (1 + atom_monomials atom) = let one = one_few atom in omega (arith, one) in
        let first = either_few (is_variable var atom) (scaled coef (out-Term by).monos) (record { coef = coef; atom = substituted_atom var by atom } ∷ []) (64 * (1 + atom_monomials atom)) replaced kept_there in
        let rest = monos_few others in
        let count = both_count here (substituted_monos var by others) in
        omega (arith, first, rest, count)

    one_few : (atom : Atom) → atom_applications (substituted_atom var by atom) ≤ 64 * (1 + atom_monomials atom)
    one_few (Var number) = omega arith
    one_few (Param number) = omega arith
    one_few (App fun arg) = let inside = substituted_few arg in omega (arith, inside)
