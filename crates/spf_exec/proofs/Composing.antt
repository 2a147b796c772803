-- What the calls on relations want of terms that are composed, and what they give.
use Rattle.std.proofs.Common.{◌≡◌, ℕ, ◌+◌, ◌<◌, ◌≤◌, ◌^◌, pos, Bool, true, false, List, [], ◌∷◌, All, ap, ◌∙◌, arith}
use Rattle.std.proofs.lemmas.List.Elements.{All-cons, All-nil}
use Rattle.spf_term.specs.Bounded.{monomials}
use Rattle.spf_term.specs.Measure.{Measure, atom_measured, by_count, by_factor, by_size, measured, size}
use Rattle.spf_term.specs.declared.term.Atom.{Atom, Var, Param, App}
use Rattle.spf_term.specs.declared.term.Mono.{Mono}
use Rattle.spf_term.specs.declared.term.Term.{Term, Term', out-Term, roll-Term, out-roll-Term, Row_of-Mono, end_of-Mono, more_of-Mono}
use Rattle.spf_rel.specs.Graph.{Compose, IsWithinSize, StayLight, shifted}
use Rattle.spf_rel.specs.Renumbering.{AtomVariables, SumVariables, Variables}
use Rattle.spf_rel.proofs.Kept.{in_term, of_sum}
use Rattle.spf_rel.proofs.Renumbered.{weaker}
use Rattle.spf_rel.proofs.Sized.{list_measured, measured_is}
use Rattle.spf_kernel.specs.Named.{AreNamedMonos, IsNamedAtom, IsNamedTerm, NameCounts}
use Rattle.spf_exec.specs.Composed.{applied, from_lower, iteration_by, sources, term_of, variable}
use Rattle.spf_exec.specs.Placeable.{IsIteration, IsPlaceable}

-- ---- how large terms are

module _ (by : Measure) where
  sum_measured : (monos : List Mono) (constant : _) → measured by (roll-Term (record { monos = monos; constant = constant })) ≡ list_measured by monos + by.constant constant
  sum_measured monos constant =
      measured_is by (roll-Term (record { monos = monos; constant = constant }))
      ∙ ap (λ term. list_measured by term.monos + by.constant term.constant) (out-roll-Term (record { monos = monos; constant = constant }))

  one_measured : (atom : Atom) → measured by (term_of atom) ≡ by.coef (pos 1) + atom_measured by atom + 0 + by.constant (pos 0)
  one_measured atom = sum_measured (record { coef = pos 1; atom = atom } ∷ []) (pos 0)

  lower_measured : (lower : Term) → measured by (from_lower lower) ≡ by.coef (pos 1) + measured by lower
  lower_measured lower =
      let sum = sum_measured (record { coef = pos 1; atom = Var 0 } ∷ (out-Term lower).monos) (out-Term lower).constant in
      let is = measured_is by lower in
      omega (arith, sum, is)

module _ (counted : (term : Term) → measured by_count term ≡ monomials term) where
  pub variable_within : (number : ℕ) → IsWithinSize 1 1 1 (variable number)
  variable_within number =
      let count = counted (variable number) in
      let counts = one_measured by_count (Var number) in
      let sizes = one_measured by_size (Var number) in
      let factors = one_measured by_factor (Var number) in
      record { few = omega (arith, count, counts); small = omega (arith, sizes); light = omega (arith, factors) }

  applied_within : (fun number : ℕ) → IsWithinSize 2 2 2 (applied fun (variable number))
  applied_within fun number =
      let inside = variable_within number in
      let few = inside.few in
      let small = inside.small in
      let light = inside.light in
      let count = counted (applied fun (variable number)) in
      let count' = counted (variable number) in
      let counts = one_measured by_count (App fun (variable number)) in
      let sizes = one_measured by_size (App fun (variable number)) in
      let factors = one_measured by_factor (App fun (variable number)) in
      record { few = omega (arith, count, count', counts, few); small = omega (arith, sizes, small); light = omega (arith, factors, light) }

  lower_within : (lower : Term) → IsWithinSize 64 (2 ^ 34 + 2 ^ 30) (2 ^ 26) lower → IsWithinSize 65 (2 ^ 34 + 2 ^ 30 + 1) (2 ^ 26 + 1) (from_lower lower)
  lower_within lower h =
      let few = h.few in
      let small = h.small in
      let light = h.light in
      let count = counted (from_lower lower) in
      let count' = counted lower in
      let counts = lower_measured by_count lower in
      let sizes = lower_measured by_size lower in
      let factors = lower_measured by_factor lower in
      record { few = omega (arith, count, count', counts, few); small = omega (arith, sizes, small); light = omega (arith, factors, light) }

-- ---- their variables

pub variable_below : (bound number : ℕ) → number < bound → Variables (λ other. other < bound) (variable number)
variable_below bound number less = of_sum (λ other. other < bound) (record { coef = pos 1; atom = Var number } ∷ []) (pos 0) (less, tt)

module _ (counts : NameCounts) (bound : ℕ) where
  mutual
    atom_named : (atom : Atom) → IsNamedAtom counts bound atom → AtomVariables (λ number. number < bound) atom
    atom_named (Var number) h = h
    atom_named (Param number) h = tt
    atom_named (App fun arg) h = named_below arg h.1

    row_named : {n : _} (row : Row_of-Mono n) → AreNamedMonos counts bound row → SumVariables (λ number. number < bound) row
    row_named end_of-Mono h = tt
    row_named (more_of-Mono coef atom others) h = (atom_named atom h.0, row_named others h.1)

    pub named_below : (term : Term) → IsNamedTerm counts bound term → Variables (λ number. number < bound) term
    named_below (Term' shape monos constant) h = row_named monos h

pub variables_fewer : (low high : ℕ) → low ≤ high → (term : Term) → Variables (λ number. number < low) term → Variables (λ number. number < high) term
variables_fewer low high fits term h = weaker (λ number. number < low) (λ number. number < high) (λ number less. omega (arith, less, fits)) term h

-- ---- iterations

module _ (counted : (term : Term) → measured by_count term ≡ monomials term) where
  pub is_iteration : (moved : Bool) (order : ℕ) (lower : Term) → IsWithinSize 64 (2 ^ 34 + 2 ^ 30) (2 ^ 26) lower → Variables (λ number. number < 0) lower → IsIteration (iteration_by moved order lower)
  is_iteration true order lower h k =
      let inside = applied_within counted order 0 in
      let few = inside.few in
      let small = inside.small in
      let light = inside.light in
      record {
        within = record { few = omega (arith, few); small = omega (arith, small); light = omega (arith, light) };
        variables = of_sum (λ other. other < 2) (record { coef = pos 1; atom = App order (variable 0) } ∷ []) (pos 0) (variable_below 2 0 (omega arith), tt);
      }
  is_iteration false order lower h k = record {
    within = lower_within counted lower h;
    variables = of_sum (λ other. other < 2) (record { coef = pos 1; atom = Var 0 } ∷ (out-Term lower).monos) (out-Term lower).constant
        (omega arith, in_term (λ other. other < 2) lower (variables_fewer 0 2 (omega arith) lower k));
  }

  pub variable_placeable : (number : ℕ) → number < 2 → IsPlaceable (variable number)
  variable_placeable number less =
      let inside = variable_within counted number in
      let few = inside.few in
      let small = inside.small in
      let light = inside.light in
      record { within = record { few = omega (arith, few); small = omega (arith, small); light = omega (arith, light) }; variables = variable_below 2 number less }

-- ---- compositions

module _ (iteration : Term) (h : IsIteration iteration) where
  pub of_two : All (Variables (λ number. number < 2)) (sources iteration)
  of_two =
      All-cons (Variables (λ number. number < 2)) iteration (variable 1 ∷ []) h.variables
      (All-cons (Variables (λ number. number < 2)) (variable 1) [] (variable_below 2 1 (omega arith)) (All-nil (Variables (λ number. number < 2))))

module _ (iteration term : Term) (h : IsIteration iteration) (k : IsPlaceable term) where
  pub they_compose : StayLight 3 (sources iteration) (shifted 3 term) → Compose 2 (sources iteration) term
  they_compose light = record { few = omega arith; of_inputs = of_two iteration h; of_outputs = k.variables; light = light }

pub both_small : (counted : (term : Term) → measured by_count term ≡ monomials term) (iteration : Term) → IsIteration iteration → All (λ (term : Term). size term ≤ 2 ^ 62) (sources iteration)
both_small counted iteration h =
    let small = h.within.small in
    let small' = (variable_within counted 1).small in
    All-cons (λ (term : Term). size term ≤ 2 ^ 62) iteration (variable 1 ∷ []) (omega (arith, small))
    (All-cons (λ (term : Term). size term ≤ 2 ^ 62) (variable 1) [] (omega (arith, small')) (All-nil (λ (term : Term). size term ≤ 2 ^ 62)))

pub variable_monos : (number : ℕ) → (out-Term (variable number)).monos ≡ record { coef = pos 1; atom = Var number } ∷ []
variable_monos number = ap (λ term. term.monos) (out-roll-Term (record { monos = record { coef = pos 1; atom = Var number } ∷ []; constant = pos 0 }))

pub variable_constant : (number : ℕ) → (out-Term (variable number)).constant ≡ pos 0
variable_constant number = ap (λ term. term.constant) (out-roll-Term (record { monos = record { coef = pos 1; atom = Var number } ∷ []; constant = pos 0 }))
