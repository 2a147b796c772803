-- How large normal forms and substitutions are.
use Rattle.std.proofs.Common.{◌≡◌, ℕ, ◌+◌, ◌*◌, ◌≤◌, ℤ, pos, ◌+ℤ◌, ◌*ℤ◌, List, [], ◌∷◌, ◌++◌, Bool, true, false, if◌then◌else◌, refl, ap, sym, ◌∙◌, arith}
use Rattle.std.proofs.Math.Nat.{mul-add, mul_comm}
use Rattle.std.proofs.lemmas.Nat.{mul-le}
use Rattle.std.specs.Ordering.{int_eq}
use Rattle.std.specs.declared.cmp.Ordering.{Ordering}
use Rattle.std.specs.declared.cmp.Ordering.TheVariants.{Less, Equal, Greater}
use Rattle.spf_term.specs.Measure.{Measure, atom_measured, measured, sum_measured}
use Rattle.spf_term.specs.Normal.{added, by_order, kept, normal, normal_atom, normal_monos}
use Rattle.spf_term.specs.Order.{atom_cmp}
use Rattle.spf_term.specs.Substitution.{is_variable, scaled, substituted, substituted_atom, substituted_constants, substituted_monos}
use Rattle.spf_term.specs.declared.term.Atom.{Atom, Var, Param, App}
use Rattle.spf_term.specs.declared.term.Mono.{Mono}
use Rattle.spf_term.specs.declared.term.Term.{Term, Term', out-Term, Row_of-Mono, end_of-Mono, more_of-Mono, items-the_row-Mono, items_shown-the_row-Mono-0}
use Rattle.spf_term.proofs.Wides.{out_constant, out_monos, sum_of}

module _ (by : Measure) where
  abbrev pub list_measured : List Mono → ℕ
  list_measured [] = 0
  list_measured (mono ∷ monos) = by.coef mono.coef + atom_measured by mono.atom + list_measured monos

  row_measured : {n : _} (row : Row_of-Mono n) → sum_measured by row ≡ list_measured (items-the_row-Mono n row)
  row_measured end_of-Mono = refl
  row_measured (more_of-Mono coef atom others) = ap (λ more. by.coef coef + atom_measured by atom + more) (row_measured others)

  pub measured_is : (term : Term) → measured by term ≡ list_measured (out-Term term).monos + by.constant (out-Term term).constant
  unfolding out-Term denote.Hole.Carrier.out
  measured_is (Term' shape monos constant) = ap (λ sum. sum + by.constant constant) (row_measured monos ∙ ap list_measured (sym (items_shown-the_row-Mono-0 shape monos)))

  pub measured_sum : (monos : List Mono) (constant : ℤ) → measured by (sum_of monos constant) ≡ list_measured monos + by.constant constant
  measured_sum monos constant = measured_is (sum_of monos constant) ∙ (λ i. list_measured (out_monos monos constant i) + by.constant (out_constant monos constant i))

  pub measured_both : (front back : List Mono) → list_measured (front ++ back) ≡ list_measured front + list_measured back
  measured_both [] back = omega arith
  measured_both (mono ∷ front) back = let more = measured_both front back in omega (arith, more)

  -- ---- normal forms

  module _ (sums : (a b : ℤ) → by.coef (a +ℤ b) ≤ by.coef a + by.coef b) where
    kept_by : (none : Bool) (coef : ℤ) (atom : Atom) (monos : List Mono) → list_measured (if none then monos else record { coef = coef; atom = atom } ∷ monos) ≤ by.coef coef + atom_measured by atom + list_measured monos
    kept_by true coef atom monos = omega arith
    kept_by false coef atom monos = omega arith

    kept_less : (coef : ℤ) (atom : Atom) (monos : List Mono) → list_measured (kept coef atom monos) ≤ by.coef coef + atom_measured by atom + list_measured monos
    kept_less coef atom monos = kept_by (int_eq coef (pos 0)) coef atom monos

    less_by : (order : Ordering) (less equal greater : List Mono) (limit : ℕ) → list_measured less ≤ limit → list_measured equal ≤ limit → list_measured greater ≤ limit → list_measured (by_order order less equal greater) ≤ limit
    less_by Less less equal greater limit a b c = a
    less_by Equal less equal greater limit a b c = b
    less_by Greater less equal greater limit a b c = c

    added_less : (coef : ℤ) (atom : Atom) (monos : List Mono) → list_measured (added coef atom monos) ≤ by.coef coef + atom_measured by atom + list_measured monos
    added_less coef atom [] = kept_less coef atom []
    added_less coef atom (mono ∷ monos) =
        let together = kept_less (coef +ℤ mono.coef) mono.atom monos in
        let sum = sums coef mono.coef in
        let later = added_less coef atom monos in
        less_by (atom_cmp atom mono.atom) (kept coef atom (mono ∷ monos)) (kept (coef +ℤ mono.coef) mono.atom monos) (mono ∷ added coef atom monos) (by.coef coef + atom_measured by atom + list_measured (mono ∷ monos))
        (kept_less coef atom (mono ∷ monos)) (omega (arith, together, sum)) (omega (arith, later))

    mutual
      normal_atom_less : (atom : Atom) → atom_measured by (normal_atom atom) ≤ atom_measured by atom
      normal_atom_less (Var number) = omega arith
      normal_atom_less (Param number) = omega arith
      normal_atom_less (App fun arg) = normal_less arg

      normal_row_less : {n : _} (row : Row_of-Mono n) → list_measured (normal_monos row) ≤ sum_measured by row
      normal_row_less end_of-Mono = omega arith
      normal_row_less (more_of-Mono coef atom others) =
          let all = added_less coef (normal_atom atom) (normal_monos others) in
          let here = normal_atom_less atom in
          let later = normal_row_less others in
          omega (arith, all, here, later)

      pub normal_less : (term : Term) → measured by (normal term) ≤ measured by term
      normal_less (Term' shape monos constant) =
          let is = measured_sum (normal_monos monos) constant in
          let less = normal_row_less monos in
          omega (arith, is, less)

-- ---- substitution

spread : (a b m : ℕ) → (a + b) * m ≡ a * m + b * m
spread a b m = mul_comm (a + b) m ∙ mul-add m a b ∙ (λ i. mul_comm m a i + mul_comm m b i)

module _ (by : Measure) (factor : ℤ → ℕ) where
  -- what a number times another counts
  pub record IsFactor : Type 0 where
    pub one : (a : ℤ) → 1 ≤ factor a
    pub coef : (a b : ℤ) → by.coef (a *ℤ b) ≤ factor a * by.coef b
    pub constant : (a b : ℤ) → by.constant (a *ℤ b) ≤ factor a * by.constant b
    pub sums : (a b : ℤ) → by.constant (a +ℤ b) ≤ by.constant a + by.constant b
    pub zero : by.constant (pos 0) ≡ 0

  abbrev pub times_in : Measure
  times_in = record { coef = factor; constant = λ constant. 0 }

  module _ (h : IsFactor) where
    larger : (a : ℤ) (count : ℕ) → count ≤ factor a * count
    larger a count = let more = mul-le 1 count (factor a) count (h.one a) (omega arith) in omega (arith, more)

    scaled_less : (a : ℤ) (monos : List Mono) → list_measured by (scaled a monos) ≤ factor a * list_measured by monos
    scaled_less a [] = omega arith
    scaled_less a (mono ∷ monos) =
        let first = h.coef a mono.coef in
        let inside = larger a (atom_measured by mono.atom) in
        let later = scaled_less a monos in
        let one = mul-add (factor a) (by.coef mono.coef) (atom_measured by mono.atom) in
        let all = mul-add (factor a) (by.coef mono.coef + atom_measured by mono.atom) (list_measured by monos) in
        omega (arith, first, inside, later, one, all)

    module _ (var : ℕ) (term : Term) where
      abbrev inner : ℕ
      inner = measured by term

      part_less : (is : Bool) (a : ℤ) (atom : Atom) → atom_measured by (substituted_atom var term atom) ≤ atom_measured by atom + atom_measured times_in atom * inner
          → list_measured by (if is then scaled a (out-Term term).monos else record { coef = a; atom = substituted_atom var term atom } ∷ []) + by.constant (if is then a *ℤ (out-Term term).constant else pos 0)
          ≤ by.coef a + atom_measured by atom + (factor a + atom_measured times_in atom) * inner
      part_less true a atom more =
          let first = scaled_less a (out-Term term).monos in
          let last = h.constant a (out-Term term).constant in
          let both = mul-add (factor a) (list_measured by (out-Term term).monos) (by.constant (out-Term term).constant) in
          let is = ap (λ count. factor a * count) (measured_is by term) in
          let all = spread (factor a) (atom_measured times_in atom) inner in
          omega (arith, first, last, both, is, all)
      part_less false a atom more =
          let all = spread (factor a) (atom_measured times_in atom) inner in
          let none = h.zero in
          omega (arith, more, all, none)

      mutual
        atom_less : (atom : Atom) → atom_measured by (substituted_atom var term atom) ≤ atom_measured by atom + atom_measured times_in atom * inner
        atom_less (Var number) = omega arith
        atom_less (Param number) = omega arith
        atom_less (App fun arg) = substituted_less arg

        row_less : {n : _} (row : Row_of-Mono n) → list_measured by (substituted_monos var term row) + by.constant (substituted_constants var term row) ≤ sum_measured by row + sum_measured times_in row * inner
        row_less end_of-Mono = let none = h.zero in omega (arith, none)
        row_less (more_of-Mono a atom others) =
            let part = if is_variable var atom then scaled a (out-Term term).monos else record { coef = a; atom = substituted_atom var term atom } ∷ [] in
            let here = part_less (is_variable var atom) a atom (atom_less atom) in
            let later = row_less others in
            let both = measured_both by part (substituted_monos var term others) in
            let last = h.sums (if is_variable var atom then a *ℤ (out-Term term).constant else pos 0) (substituted_constants var term others) in
            let all = spread (factor a + atom_measured times_in atom) (sum_measured times_in others) inner in
            omega (arith, here, later, both, last, all)

        pub substituted_less : (whole : Term) → measured by (substituted var term whole) ≤ measured by whole + measured times_in whole * inner
        substituted_less (Term' shape monos constant) =
            let is = measured_sum by (substituted_monos var term monos) (constant +ℤ substituted_constants var term monos) in
            let less = row_less monos in
            let last = h.sums constant (substituted_constants var term monos) in
            let none = spread (sum_measured times_in monos) 0 inner in
            omega (arith, is, less, last, none)
