-- The equality of a variable and a term is solved for the variable alone, and stays one.
use Rattle.std.proofs.Common.{◌≡◌, inr, ℕ, zero, suc, ◌+◌, ◌≤◌, ◌<◌, ℤ, pos, negsuc, ◌+ℤ◌, ◌*ℤ◌, List, [], ◌∷◌, ◌++◌, Bool, true, false, if◌then◌else◌, None, Some, not, nat_eq, refl, ap, sym, ◌∙◌, subst, arith}
use Rattle.std.proofs.Math.IntN.{+ℤ_idl}
use Rattle.std.proofs.lemmas.Bool.Decides.{nat_tests}
use Rattle.std.proofs.lemmas.Int.{ints}
use Rattle.std.specs.Ordering.{int_eq}
use Rattle.spf_term.specs.Equation.{IsApart, difference, equation}
use Rattle.spf_term.specs.Normal.{AllAtoms, ListIsNormal, normal}
use Rattle.spf_term.specs.Solution.{is_negative, leads_negative, mentions, oriented, solution, some_mention, times}
use Rattle.spf_term.specs.Substitution.{scaled, substituted}
use Rattle.spf_term.specs.declared.term.Atom.{Var}
use Rattle.spf_term.specs.declared.term.Mono.{Mono}
use Rattle.spf_term.specs.declared.term.Term.{Term, out-Term, roll-out-Term}
use Rattle.spf_term.proofs.Confluent.{confluent}
use Rattle.spf_term.proofs.Equated.{Inserted, None_at, found_at, front_none, none_at, none_each, none_found, scaled_both, scaled_mention, scaled_none, whole_constant, whole_inserted, whole_monos}
use Rattle.spf_term.proofs.Mentioned.{mentions_are}
use Rattle.spf_term.proofs.NormalForms.{added_each, normal_is, normal_list}
use Rattle.spf_term.proofs.Scaled.{once, opposite, opposites, scaled_constants, scaled_parts, times_constant, times_monos, times_normal_form, times_substituted}
use Rattle.spf_term.proofs.Settled.{settled}
use Rattle.spf_term.proofs.Solved.{times_minus, times_one}
use Rattle.spf_term.proofs.Substituted.{constants, parts, substituted_is}
use Rattle.spf_term.proofs.Weights.{spread_right}
use Rattle.spf_term.proofs.Wides.{out_constant, out_monos, sum_of}

-- ---- solved

module _ (low high var : ℕ) (term : Term) (apart : IsApart low high (normal term)) where
  abbrev monos : List Mono
  monos = (out-Term (normal term)).monos

  abbrev constant : ℤ
  constant = (out-Term (normal term)).constant

  abbrev whole : Term
  whole = normal (difference var term)

  rest_none : AllAtoms (None_at low high) (scaled (negsuc 0) monos)
  rest_none = scaled_none low high (negsuc 0) monos (none_each low high monos (λ number from to. sym (mentions_are number (normal term)) ∙ apart number from to))

  module _ (from : low ≤ var) (to : var < high) where
    absent : mentions var (normal term) ≡ false
    absent = apart var from to

    place : Inserted var (scaled (negsuc 0) monos) (out-Term whole).monos
    place = whole_inserted var term absent

    no_mention : (made : List Mono) → made ≡ scaled (negsuc 0) monos → some_mention var made ≡ false
    no_mention made are = ap (some_mention var) are ∙ scaled_mention var (negsuc 0) monos ∙ sym (mentions_are var (normal term)) ∙ absent

    solved_by : (negative : Bool) → solution low high (if negative then times (negsuc 0) whole else whole) ≡ Some (record { var = var; by = normal term })
    solved_by false =
        found_at low high var from to whole (pos 1) (negsuc 0 *ℤ constant) place.front place.back place.is (whole_constant var term) refl (no_mention (place.front ++ place.back) (sym place.are))
        (front_none low high place.front place.back (subst (AllAtoms (None_at low high)) place.are rest_none))
        ∙ ap (λ by. Some (record { var = var; by = by })) (back_again place.front place.back place.are) where
          back_again : (front back : List Mono) → scaled (negsuc 0) monos ≡ front ++ back → times (negsuc 0) (sum_of (front ++ back) (negsuc 0 *ℤ constant)) ≡ normal term
          back_again front back are =
              (λ i. sum_of ((ap (scaled (negsuc 0)) (out_monos (front ++ back) (negsuc 0 *ℤ constant) ∙ sym are) ∙ opposites monos) i)
              ((ap (λ (number : ℤ). negsuc 0 *ℤ number) (out_constant (front ++ back) (negsuc 0 *ℤ constant)) ∙ opposite constant) i))
              ∙ roll-out-Term (normal term)
    solved_by true =
        let front = scaled (negsuc 0) place.front in
        let back = scaled (negsuc 0) place.back in
        let both : front ++ back ≡ scaled (negsuc 0) (scaled (negsuc 0) monos) = sym (scaled_both (negsuc 0) place.front place.back) ∙ ap (scaled (negsuc 0)) (sym place.are) in
        found_at low high var from to (times (negsuc 0) whole) (negsuc 0) (negsuc 0 *ℤ (negsuc 0 *ℤ constant)) front back
        (times_monos (negsuc 0) whole ∙ ap (scaled (negsuc 0)) place.is ∙ scaled_both (negsuc 0) place.front (record { coef = pos 1; atom = Var var } ∷ place.back))
        (times_constant (negsuc 0) whole ∙ ap (λ (number : ℤ). negsuc 0 *ℤ number) (whole_constant var term)) refl
        (ap (some_mention var) both ∙ scaled_mention var (negsuc 0) (scaled (negsuc 0) monos) ∙ no_mention (scaled (negsuc 0) monos) refl)
        (scaled_none low high (negsuc 0) place.front (front_none low high place.front place.back (subst (AllAtoms (None_at low high)) place.are rest_none)))
        ∙ ap (λ by. Some (record { var = var; by = by })) (still front back both) where
          still : (front back : List Mono) → front ++ back ≡ scaled (negsuc 0) (scaled (negsuc 0) monos) → times (pos 1) (sum_of (front ++ back) (negsuc 0 *ℤ (negsuc 0 *ℤ constant))) ≡ normal term
          still front back are =
              (λ i. sum_of ((ap (scaled (pos 1)) (out_monos (front ++ back) (negsuc 0 *ℤ (negsuc 0 *ℤ constant)) ∙ are) ∙ once (scaled (negsuc 0) (scaled (negsuc 0) monos)) ∙ opposites monos) i)
              ((ap (λ (number : ℤ). pos 1 *ℤ number) (out_constant (front ++ back) (negsuc 0 *ℤ (negsuc 0 *ℤ constant))) ∙ times_one (negsuc 0 *ℤ (negsuc 0 *ℤ constant)) ∙ opposite constant) i))
              ∙ roll-out-Term (normal term)

    pub solved : solution low high (equation var term) ≡ Some (record { var = var; by = normal term })
    solved = solved_by (leads_negative (out-Term whole).monos)

  module _ (below : var < low) where
    here_none : None_at low high (Var var)
    here_none = none_at low high (Var var) (λ number from to. let differs : nat_eq var number ≡ false = grind (arith, nat_tests) in differs)

    whole_none : AllAtoms (None_at low high) (out-Term whole).monos
    whole_none = subst (AllAtoms (None_at low high)) (sym (whole_monos var term)) (added_each (None_at low high) (pos 1) (Var var) (scaled (negsuc 0) monos) rest_none here_none)

    unsolved_by : (negative : Bool) → solution low high (if negative then times (negsuc 0) whole else whole) ≡ None
    unsolved_by false = none_found low high whole whole_none
    unsolved_by true = none_found low high (times (negsuc 0) whole) (subst (AllAtoms (None_at low high)) (sym (times_monos (negsuc 0) whole)) (scaled_none low high (negsuc 0) (out-Term whole).monos whole_none))

    pub unsolved : solution low high (equation var term) ≡ None
    unsolved = unsolved_by (leads_negative (out-Term whole).monos)

-- ---- normal before or after

pub normal_whole : (var : ℕ) (by term : Term) → normal (substituted var by (normal term)) ≡ normal (substituted var by term)
normal_whole var by term =
    sym (confluent var by (normal term)) ∙ ap (λ of. normal (substituted var (normal by) of)) (settled (normal term) (normal_is term)) ∙ confluent var by term

pub normal_by : (var : ℕ) (by term : Term) → normal (substituted var (normal by) term) ≡ normal (substituted var by term)
normal_by var by term =
    sym (confluent var (normal by) term) ∙ ap (λ of. normal (substituted var of (normal term))) (settled (normal by) (normal_is by)) ∙ confluent var by term

-- ---- kept

other_sign : (coef minus : ℤ) → minus +ℤ coef ≡ pos 0 → int_eq coef (pos 0) ≡ false → is_negative minus ≡ not (is_negative coef)
other_sign (pos zero) minus is apart = cc
other_sign (pos (suc coef)) (pos minus) is apart = absurd (omega (arith, ints, is))
other_sign (pos (suc coef)) (negsuc minus) is apart = refl
other_sign (negsuc coef) (pos minus) is apart = refl
other_sign (negsuc coef) (negsuc minus) is apart = absurd (omega (arith, ints, is))

turned_by : (negative : Bool) (term : Term) → (if not negative then times (negsuc 0) (times (negsuc 0) term) else times (negsuc 0) term) ≡ (if negative then times (negsuc 0) term else term)
turned_by true term = refl
turned_by false term =
    (λ i. sum_of ((ap (scaled (negsuc 0)) (times_monos (negsuc 0) term) ∙ opposites (out-Term term).monos) i) ((ap (λ (number : ℤ). negsuc 0 *ℤ number) (times_constant (negsuc 0) term) ∙ opposite (out-Term term).constant) i))
    ∙ roll-out-Term term

-- a term with monomials is oriented alike whatever its sign is
oriented_turned : (term : Term) (mono : Mono) (more : List Mono) → (out-Term term).monos ≡ mono ∷ more → int_eq mono.coef (pos 0) ≡ false → oriented (times (negsuc 0) term) ≡ oriented term
oriented_turned term mono more are apart =
    ap (λ negative. if negative then times (negsuc 0) (times (negsuc 0) term) else times (negsuc 0) term)
    (ap leads_negative (times_monos (negsuc 0) term ∙ ap (scaled (negsuc 0)) are) ∙ other_sign mono.coef (negsuc 0 *ℤ mono.coef) (times_minus mono.coef) apart)
    ∙ turned_by (is_negative mono.coef) term
    ∙ ap (λ negative. if negative then times (negsuc 0) term else term) (sym (ap leads_negative are))

module _ (var other : ℕ) (by term : Term) (differs : nat_eq other var ≡ false) where
  first_kept : (is : Bool) (first more : List Mono) (product sum : ℤ) → is ≡ false
      → ((if is then more else first) ≡ first) × ((if is then product else pos 0) +ℤ sum ≡ sum)
  first_kept true first more product sum apart = cc
  first_kept false first more product sum apart = (refl, +ℤ_idl sum)

  difference_substituted : substituted var by (difference other term) ≡ difference other (substituted var by term)
  difference_substituted =
      let monos = (out-Term term).monos in
      let constant = (out-Term term).constant in
      let first : Mono = record { coef = pos 1; atom = Var other } in
      let all = first ∷ scaled (negsuc 0) monos in
      let last = negsuc 0 *ℤ constant in
      let made = parts var by monos in
      let sum = constant +ℤ constants var by monos in
      let is = first_kept (nat_eq other var) (first ∷ []) (scaled (pos 1) (out-Term by).monos) (pos 1 *ℤ (out-Term by).constant) (constants var by (scaled (negsuc 0) monos)) differs in
      substituted_is var by (difference other term)
      ∙ (λ i. sum_of (parts var by (out_monos all last i)) (out_constant all last i +ℤ constants var by (out_monos all last i)))
      ∙ (λ i. sum_of (is.0 i ++ scaled_parts var by (negsuc 0) monos i) (last +ℤ (is.1 ∙ scaled_constants var by (negsuc 0) monos) i))
      ∙ ap (sum_of (first ∷ scaled (negsuc 0) made)) (sym (spread_right (negsuc 0) constant (constants var by monos)))
      ∙ (λ i. sum_of (first ∷ scaled (negsuc 0) (sym (out_monos made sum) i)) (negsuc 0 *ℤ sym (out_constant made sum) i))
      ∙ ap (difference other) (sym (substituted_is var by term))

  abbrev old : Term
  old = normal (difference other term)

  abbrev new : Term
  new = normal (difference other (substituted var by term))

  old_to_new : normal (substituted var by old) ≡ new
  old_to_new = normal_whole var by (difference other term) ∙ ap normal difference_substituted

  first_of : (front back : List Mono) (made : List Mono) → made ≡ front ++ record { coef = pos 1; atom = Var other } ∷ back → ListIsNormal made → (first : Mono) × (more : List Mono) × (made ≡ first ∷ more) × (int_eq first.coef (pos 0) ≡ false)
  first_of [] back made are h = (record { coef = pos 1; atom = Var other }, back, are, refl)
  first_of (mono ∷ front) back made are h = (mono, front ++ record { coef = pos 1; atom = Var other } ∷ back, are, (subst ListIsNormal are h).0)

  module _ (apart : mentions other (normal (substituted var by term)) ≡ false) where
    kept_by : (negative : Bool) → oriented (normal (substituted var by (if negative then times (negsuc 0) old else old))) ≡ oriented new
    kept_by false = ap oriented old_to_new
    kept_by true =
        let place = whole_inserted other (substituted var by term) apart in
        let first = first_of place.front place.back (out-Term new).monos place.is (normal_list new (normal_is (difference other (substituted var by term)))) in
        ap (λ of. oriented (normal of)) (times_substituted var by (negsuc 0) old) ∙ ap oriented (times_normal_form (negsuc 0) (inr refl) (substituted var by old) ∙ ap (times (negsuc 0)) old_to_new)
        ∙ oriented_turned new first.0 first.1 first.2 first.3

    pub equation_kept : oriented (normal (substituted var by (equation other term))) ≡ equation other (substituted var by term)
    equation_kept = kept_by (leads_negative (out-Term old).monos)
