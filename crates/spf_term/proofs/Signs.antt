-- A normal term times 1 or -1 is normal, and keeps the number rule.
use Rattle.std.proofs.Common.{◌≡◌, ◌⊎◌, inl, inr, ℕ, ◌+◌, ◌*◌, ◌≤◌, ◌^◌, ℤ, pos, negsuc, ◌*ℤ◌, List, [], ◌∷◌, ◌++◌, Bool, true, false, if◌then◌else◌, Option, None, Some, nat_lt, unsigned_abs, refl, ap, sym, ◌∙◌, subst, arith}
use Rattle.std.proofs.lemmas.Bool.Decides.{Decides-int_eq}
use Rattle.std.proofs.lemmas.Int.{ints, unsigned_abs-mul}
use Rattle.std.proofs.lemmas.List.Folds.{find-append}
use Rattle.std.specs.List.{find}
use Rattle.std.specs.Option.{option_or}
use Rattle.std.specs.Ordering.{int_eq}
use Rattle.spf_term.specs.Bounded.{atom_monomials}
use Rattle.spf_term.specs.Normal.{IsBeforeAll, IsNormal, ListIsNormal}
use Rattle.spf_term.specs.NumberRule.{atom_numbers, excess, is_outside, mono_numbers}
use Rattle.spf_term.specs.Solution.{IsReady, leads_negative, oriented, solution, times}
use Rattle.spf_term.specs.Substitution.{scaled}
use Rattle.spf_term.specs.declared.solutions.Solution.{Solution}
use Rattle.spf_term.specs.declared.term.Atom.{Atom}
use Rattle.spf_term.specs.declared.term.Mono.{Mono}
use Rattle.spf_term.specs.declared.term.Term.{Term, out-Term}
use Rattle.spf_term.proofs.NormalForms.{normal_from, normal_list}
use Rattle.spf_term.proofs.Numbers.{list_monomials, list_numbers, monomials_are, numbers_are}
use Rattle.spf_term.proofs.Rule.{both_none, few_and_small, first_by, keeps_rule}
use Rattle.spf_term.proofs.Solved.{found_in, times_minus, times_one, unit_of}
use Rattle.spf_term.proofs.Wides.{out_constant, out_monos, sum_of}

abbrev pub IsUnit : ℤ → Type 0
IsUnit factor = (factor ≡ pos 1) ⊎ (factor ≡ negsuc 0)

no_zero : (factor coef : ℤ) → IsUnit factor → factor *ℤ coef ≡ pos 0 → coef ≡ pos 0
no_zero factor coef (inl one) zero = sym (times_one coef) ∙ ap (λ (of : ℤ). of *ℤ coef) (sym one) ∙ zero
no_zero factor coef (inr minus) zero =
    let m = times_minus coef in
    let z : negsuc 0 *ℤ coef ≡ pos 0 = ap (λ (of : ℤ). of *ℤ coef) (sym minus) ∙ zero in
    omega (arith, ints, m, z)

kept_apart : (test : Bool) (factor coef : ℤ) → IsUnit factor → int_eq coef (pos 0) ≡ false → int_eq (factor *ℤ coef) (pos 0) ≡ test → test ≡ false
kept_apart true factor coef unit apart is =
    let zero = no_zero factor coef unit ((Decides-int_eq (factor *ℤ coef) (pos 0)).0 is) in
    sym (ap (λ (of : ℤ). int_eq of (pos 0)) zero) ∙ apart
kept_apart false factor coef unit apart is = refl

scaled_before : (factor : ℤ) (atom : Atom) (monos : List Mono) → IsBeforeAll atom monos → IsBeforeAll atom (scaled factor monos)
scaled_before factor atom [] h = tt
scaled_before factor atom (mono ∷ monos) h = (h.0, scaled_before factor atom monos h.1)

pub scaled_normal : (factor : ℤ) (monos : List Mono) → IsUnit factor → ListIsNormal monos → ListIsNormal (scaled factor monos)
scaled_normal factor [] unit h = tt
scaled_normal factor (mono ∷ monos) unit h =
    (kept_apart (int_eq (factor *ℤ mono.coef) (pos 0)) factor mono.coef unit h.0 refl, h.1, scaled_before factor mono.atom monos h.2, scaled_normal factor monos unit h.3)

pub times_normal : (factor : ℤ) (term : Term) → IsUnit factor → IsNormal term → IsNormal (times factor term)
times_normal factor term unit h =
    normal_from (times factor term)
    (subst ListIsNormal (sym (out_monos (scaled factor (out-Term term).monos) (factor *ℤ (out-Term term).constant))) (scaled_normal factor (out-Term term).monos unit (normal_list term h)))

oriented_by : (negative : Bool) (term : Term) → IsNormal term → IsNormal (if negative then times (negsuc 0) term else term)
oriented_by true term h = times_normal (negsuc 0) term (inr refl) h
oriented_by false term h = h

pub oriented_normal : (term : Term) → IsNormal term → IsNormal (oriented term)
oriented_normal term h = oriented_by (leads_negative (out-Term term).monos) term h

-- ---- the number rule

same_size : (factor number : ℤ) → IsUnit factor → unsigned_abs (factor *ℤ number) ≡ unsigned_abs number
same_size factor number (inl one) = unsigned_abs-mul factor number ∙ ap (λ (of : ℤ). unsigned_abs of * unsigned_abs number) one ∙ omega arith
same_size factor number (inr minus) = unsigned_abs-mul factor number ∙ ap (λ (of : ℤ). unsigned_abs of * unsigned_abs number) minus ∙ omega arith

same_outside : (factor number : ℤ) → IsUnit factor → is_outside (factor *ℤ number) ≡ is_outside number
same_outside factor number unit = ap (λ size. nat_lt (2 ^ 62) size) (same_size factor number unit)

module _ (factor : ℤ) (unit : IsUnit factor) where
  scaled_monomials : (monos : List Mono) → list_monomials (scaled factor monos) ≡ list_monomials monos
  scaled_monomials [] = refl
  scaled_monomials (mono ∷ monos) = ap (λ more. 1 + atom_monomials mono.atom + more) (scaled_monomials monos)

  none_by : (first second : Bool) (number other : ℤ) (rest : Option ℤ) → first ≡ second → (if second then Some number else rest) ≡ None → (if first then Some other else rest) ≡ None
  none_by first second number other rest same none = ap (λ test. if test then Some other else rest) (same ∙ (first_by second number rest none).0) ∙ (first_by second number rest none).1

  scaled_numbers : (monos : List Mono) (constant : ℤ) → find is_outside (list_numbers monos constant) ≡ None → find is_outside (list_numbers (scaled factor monos) (factor *ℤ constant)) ≡ None
  scaled_numbers [] constant none = none_by (is_outside (factor *ℤ constant)) (is_outside constant) constant (factor *ℤ constant) None (same_outside factor constant unit) none
  scaled_numbers (mono ∷ monos) constant none =
      let parts = both_none (find is_outside (mono_numbers mono)) (find is_outside (list_numbers monos constant)) (sym (find-append is_outside (mono_numbers mono) (list_numbers monos constant)) ∙ none) in
      let here = none_by (is_outside (factor *ℤ mono.coef)) (is_outside mono.coef) mono.coef (factor *ℤ mono.coef) (find is_outside (atom_numbers mono.atom)) (same_outside factor mono.coef unit) parts.0 in
      find-append is_outside ((factor *ℤ mono.coef) ∷ atom_numbers mono.atom) (list_numbers (scaled factor monos) (factor *ℤ constant))
      ∙ ap (λ found. option_or found (find is_outside (list_numbers (scaled factor monos) (factor *ℤ constant)))) here ∙ scaled_numbers monos constant parts.1

-- ---- without one monomial

fewer_before : (atom : Atom) (front : List Mono) (mono : Mono) (back : List Mono) → IsBeforeAll atom (front ++ mono ∷ back) → IsBeforeAll atom (front ++ back)
fewer_before atom [] mono back h = h.1
fewer_before atom (first ∷ front) mono back h = (h.0, fewer_before atom front mono back h.1)

fewer_normal : (front : List Mono) (mono : Mono) (back : List Mono) → ListIsNormal (front ++ mono ∷ back) → ListIsNormal (front ++ back)
fewer_normal [] mono back h = h.3
fewer_normal (first ∷ front) mono back h = (h.0, h.1, fewer_before first.atom front mono back h.2, fewer_normal front mono back h.3)

fewer_monomials : (front : List Mono) (mono : Mono) (back : List Mono) → list_monomials (front ++ back) ≤ list_monomials (front ++ mono ∷ back)
fewer_monomials [] mono back = omega arith
fewer_monomials (first ∷ front) mono back = let more = fewer_monomials front mono back in omega (arith, more)

fewer_numbers : (front : List Mono) (mono : Mono) (back : List Mono) (constant : ℤ) → find is_outside (list_numbers (front ++ mono ∷ back) constant) ≡ None → find is_outside (list_numbers (front ++ back) constant) ≡ None
fewer_numbers [] mono back constant none =
    (both_none (find is_outside (mono_numbers mono)) (find is_outside (list_numbers back constant)) (sym (find-append is_outside (mono_numbers mono) (list_numbers back constant)) ∙ none)).1
fewer_numbers (first ∷ front) mono back constant none =
    let parts = both_none (find is_outside (mono_numbers first)) (find is_outside (list_numbers (front ++ mono ∷ back) constant)) (sym (find-append is_outside (mono_numbers first) (list_numbers (front ++ mono ∷ back) constant)) ∙ none) in
    find-append is_outside (mono_numbers first) (list_numbers (front ++ back) constant)
    ∙ ap (λ found. option_or found (find is_outside (list_numbers (front ++ back) constant))) parts.0 ∙ fewer_numbers front mono back constant parts.1

-- ---- solutions

opposite_unit : (coef : ℤ) → IsUnit coef → IsUnit (negsuc 0 *ℤ coef)
opposite_unit coef (inl one) = inr (ap (λ (of : ℤ). negsuc 0 *ℤ of) one)
opposite_unit coef (inr minus) = inl (ap (λ (of : ℤ). negsuc 0 *ℤ of) minus)

module _ (factor : ℤ) (unit : IsUnit factor) (monos : List Mono) (constant : ℤ) where
  abbrev scaled_term : Term
  scaled_term = times factor (sum_of monos constant)

  scaled_monos_are : (out-Term scaled_term).monos ≡ scaled factor monos
  scaled_monos_are = out_monos (scaled factor (out-Term (sum_of monos constant)).monos) (factor *ℤ (out-Term (sum_of monos constant)).constant) ∙ ap (scaled factor) (out_monos monos constant)

  scaled_constant_is : (out-Term scaled_term).constant ≡ factor *ℤ constant
  scaled_constant_is = out_constant (scaled factor (out-Term (sum_of monos constant)).monos) (factor *ℤ (out-Term (sum_of monos constant)).constant) ∙ ap (λ (of : ℤ). factor *ℤ of) (out_constant monos constant)

  scaled_ready : ListIsNormal monos → list_monomials monos ≤ 16384 → find is_outside (list_numbers monos constant) ≡ None → IsNormal scaled_term × (excess scaled_term ≡ None)
  scaled_ready normal few none = (
    normal_from scaled_term (subst ListIsNormal (sym scaled_monos_are) (scaled_normal factor monos unit normal)),
    keeps_rule scaled_term (subst (λ count. count ≤ 16384) (sym (monomials_are scaled_term ∙ ap list_monomials scaled_monos_are ∙ scaled_monomials factor unit monos)) few)
        (ap (find is_outside) (numbers_are scaled_term ∙ (λ i. list_numbers (scaled_monos_are i) (scaled_constant_is i))) ∙ scaled_numbers factor unit monos constant none),
  )

pub solution_ready : (low high : ℕ) (term : Term) (found : Solution) → IsNormal term → excess term ≡ None → solution low high term ≡ Some found → IsReady found
solution_ready low high term found normal keeps is =
    let h = found_in low high term found is in
    let constant = (out-Term term).constant in
    let both = few_and_small term keeps in
    let list : ListIsNormal (h.front ++ h.mono ∷ h.back) = subst ListIsNormal h.are (normal_list term normal) in
    let few : list_monomials (h.front ++ h.mono ∷ h.back) ≤ 16384 = subst (λ count. count ≤ 16384) (monomials_are term ∙ ap list_monomials h.are) both.0 in
    let none : find is_outside (list_numbers (h.front ++ h.mono ∷ h.back) constant) ≡ None = ap (λ (of : List Mono). find is_outside (list_numbers of constant)) (sym h.are) ∙ ap (find is_outside) (sym (numbers_are term)) ∙ both.1 in
    let less = fewer_monomials h.front h.mono h.back in
    let ready = scaled_ready (negsuc 0 *ℤ h.coef) (opposite_unit h.coef (unit_of low high found.var h.coef h.others h.can)) (h.front ++ h.back) constant
    (fewer_normal h.front h.mono h.back list) (omega (arith, few, less)) (fewer_numbers h.front h.mono h.back constant none) in
    let same : times (negsuc 0 *ℤ h.coef) (sum_of (h.front ++ h.back) constant) ≡ found.by = ap (λ of. times (negsuc 0 *ℤ h.coef) (sum_of of constant)) (sym h.rest) ∙ sym h.by in
    record { normal = subst IsNormal same ready.0; keeps = subst (λ of. excess of ≡ None) same ready.1 }
