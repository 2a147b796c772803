-- The equality of a variable and a term: where it is solved, and what becomes of it when a term comes in place of another variable.
use Rattle.std.proofs.Common.{◌≡◌, inr, ℕ, ◌+◌, ◌≤◌, ◌<◌, ℤ, pos, negsuc, ◌+ℤ◌, ◌*ℤ◌, List, [], ◌∷◌, ◌++◌, Bool, true, false, if◌then◌else◌, Option, None, Some, map, nat_eq, nat_lt, refl, ap, sym, ◌∙◌, append_assoc, append-nil, arith}
use Rattle.std.proofs.lemmas.Bool.Decides.{nat_tests}
use Rattle.std.specs.Option.{option_or}
use Rattle.std.specs.declared.cmp.Ordering.{Ordering}
use Rattle.std.specs.declared.cmp.Ordering.TheVariants.{Less, Equal, Greater}
use Rattle.spf_term.specs.Equation.{difference}
use Rattle.spf_term.specs.Normal.{AllAtoms, added, all_added, by_order, kept, normal, normal_mono}
use Rattle.spf_term.specs.Order.{atom_cmp}
use Rattle.spf_term.specs.Solution.{atom_mentions, can_solve, is_unit, mentions, solution, solution_among, solved_at, some_mention, times}
use Rattle.spf_term.specs.Substitution.{scaled}
use Rattle.spf_term.specs.declared.solutions.Solution.{Solution}
use Rattle.spf_term.specs.declared.term.Atom.{Atom, Var, Param, App}
use Rattle.spf_term.specs.declared.term.Mono.{Mono}
use Rattle.spf_term.specs.declared.term.Term.{Term, out-Term}
use Rattle.spf_term.proofs.Confluent.{normal_constant_is, normal_monos_are}
use Rattle.spf_term.proofs.Exact.{exact_atom}
use Rattle.spf_term.proofs.Mentioned.{mentions_are}
use Rattle.spf_term.proofs.Scaled.{scaled_added}
use Rattle.spf_term.proofs.Substituted.{parts}
use Rattle.spf_term.proofs.Wides.{out_constant, out_monos, sum_of}

either_false : (first second : Bool) → (if first then true else second) ≡ false → (first ≡ false) × (second ≡ false)
either_false true second is = cc
either_false false second is = (refl, is)

-- ---- a variable among monomials that don't have it

pub record Inserted (var : ℕ) (monos made : List Mono) : Type 0 where
  pub front : List Mono
  pub back : List Mono
  pub are : monos ≡ front ++ back
  pub is : made ≡ front ++ record { coef = pos 1; atom = Var var } ∷ back

module _ (var : ℕ) where
  abbrev first : Mono
  first = record { coef = pos 1; atom = Var var }

  itself : nat_eq var var ≡ true
  itself = grind (arith, nat_tests)

  inserted_by : (order : Ordering) (mono : Mono) (monos : List Mono) → atom_cmp (Var var) mono.atom ≡ order → atom_mentions var mono.atom ≡ false → Inserted var monos (added (pos 1) (Var var) monos)
      → Inserted var (mono ∷ monos) (by_order order (kept (pos 1) (Var var) (mono ∷ monos)) (kept (pos 1 +ℤ mono.coef) mono.atom monos) (mono ∷ added (pos 1) (Var var) monos))
  inserted_by Less mono monos is apart more = record { front = []; back = mono ∷ monos; are = refl; is = refl }
  inserted_by Equal mono monos is apart more =
      let clash : true ≡ false = sym itself ∙ ap (atom_mentions var) (exact_atom (Var var) mono.atom is) ∙ apart in
      cc
  inserted_by Greater mono monos is apart more = record { front = mono ∷ more.front; back = more.back; are = ap (λ others. mono ∷ others) more.are; is = ap (λ others. mono ∷ others) more.is }

  inserted : (monos : List Mono) → some_mention var monos ≡ false → Inserted var monos (added (pos 1) (Var var) monos)
  inserted [] none = record { front = []; back = []; are = refl; is = refl }
  inserted (mono ∷ monos) none =
      let parts = either_false (atom_mentions var mono.atom) (some_mention var monos) none in
      inserted_by (atom_cmp (Var var) mono.atom) mono monos refl parts.0 (inserted monos parts.1)

pub scaled_mention : (var : ℕ) (factor : ℤ) (monos : List Mono) → some_mention var (scaled factor monos) ≡ some_mention var monos
scaled_mention var factor [] = refl
scaled_mention var factor (mono ∷ monos) = ap (λ later. if atom_mentions var mono.atom then true else later) (scaled_mention var factor monos)

pub scaled_both : (factor : ℤ) (front back : List Mono) → scaled factor (front ++ back) ≡ scaled factor front ++ scaled factor back
scaled_both factor [] back = refl
scaled_both factor (mono ∷ front) back = ap (λ more. record { coef = factor *ℤ mono.coef; atom = mono.atom } ∷ more) (scaled_both factor front back)

-- ---- the normal form of the difference

module _ (var : ℕ) (term : Term) where
  abbrev whole : Term
  whole = normal (difference var term)

  abbrev rest : List Mono
  rest = scaled (negsuc 0) (out-Term (normal term)).monos

  pub whole_monos : (out-Term whole).monos ≡ added (pos 1) (Var var) rest
  whole_monos =
      normal_monos_are (difference var term)
      ∙ ap (λ monos. all_added (map normal_mono monos)) (out_monos (record { coef = pos 1; atom = Var var } ∷ scaled (negsuc 0) (out-Term term).monos) (negsuc 0 *ℤ (out-Term term).constant))
      ∙ ap (added (pos 1) (Var var)) (scaled_added (negsuc 0) (inr refl) (out-Term term).monos ∙ ap (scaled (negsuc 0)) (sym (normal_monos_are term)))

  pub whole_constant : (out-Term whole).constant ≡ negsuc 0 *ℤ (out-Term (normal term)).constant
  whole_constant =
      normal_constant_is (difference var term)
      ∙ out_constant (record { coef = pos 1; atom = Var var } ∷ scaled (negsuc 0) (out-Term term).monos) (negsuc 0 *ℤ (out-Term term).constant)
      ∙ ap (λ (constant : ℤ). negsuc 0 *ℤ constant) (sym (normal_constant_is term))

  pub whole_inserted : mentions var (normal term) ≡ false → Inserted var rest (out-Term whole).monos
  whole_inserted apart =
      let made = inserted var rest (scaled_mention var (negsuc 0) (out-Term (normal term)).monos ∙ sym (mentions_are var (normal term)) ∙ apart) in
      record { front = made.front; back = made.back; are = made.are; is = whole_monos ∙ made.is }

-- ---- where it is solved

module _ (low high : ℕ) where
  abbrev pub None_at : Atom → Type 0
  None_at atom = (constant coef : ℤ) (others : List Mono) → solved_at low high constant coef atom others ≡ None

  abbrev found_if : Bool → ℕ → Term → Option Solution
  found_if can number by = if can then Some (record { var = number; by = by }) else None

  variable_none : (below inside unit apart : Bool) (number : ℕ) (by : Term) → (below ≡ false → inside ≡ true → ⊥)
      → found_if (if below then false else if inside then (if unit then (if apart then false else true) else false) else false) number by ≡ None
  variable_none true inside unit apart number by never = refl
  variable_none false false unit apart number by never = refl
  variable_none false true unit apart number by never = absurd (never refl refl)

  pub none_at : (atom : Atom) → ((number : ℕ) → low ≤ number → number < high → atom_mentions number atom ≡ false) → None_at atom
  none_at (Var number) apart constant coef others =
      variable_none (nat_lt number low) (nat_lt number high) (is_unit coef) (some_mention number others) number (times (negsuc 0 *ℤ coef) (sum_of others constant))
      (λ below inside.
      let from : low ≤ number = grind (arith, nat_tests) in
      let to : number < high = grind (arith, nat_tests) in
      let same : nat_eq number number ≡ true = grind (arith, nat_tests) in
      let clash : true ≡ false = sym same ∙ apart number from to in
      cc)
  none_at (Param number) apart constant coef others = refl
  none_at (App fun arg) apart constant coef others = refl

  pub none_each : (monos : List Mono) → ((number : ℕ) → low ≤ number → number < high → some_mention number monos ≡ false) → AllAtoms None_at monos
  none_each [] apart = tt
  none_each (mono ∷ monos) apart = (
    none_at mono.atom (λ number from to. (either_false (atom_mentions number mono.atom) (some_mention number monos) (apart number from to)).0),
    none_each monos (λ number from to. (either_false (atom_mentions number mono.atom) (some_mention number monos) (apart number from to)).1),
  )

  pub scaled_none : (factor : ℤ) (monos : List Mono) → AllAtoms None_at monos → AllAtoms None_at (scaled factor monos)
  scaled_none factor [] h = tt
  scaled_none factor (mono ∷ monos) h = (h.0, scaled_none factor monos h.1)

  pub front_none : (front back : List Mono) → AllAtoms None_at (front ++ back) → AllAtoms None_at front
  front_none [] back h = tt
  front_none (mono ∷ front) back h = (h.0, front_none front back h.1)

  passed : (constant : ℤ) (before : List Mono) (mono : Mono) (after : List Mono) → None_at mono.atom → solution_among low high constant before (mono ∷ after) ≡ solution_among low high constant (before ++ mono ∷ []) after
  passed constant before mono after h = ap (λ found. option_or found (solution_among low high constant (before ++ mono ∷ []) after)) (h constant mono.coef (before ++ after))

  gone_past : (constant : ℤ) (before front after : List Mono) → AllAtoms None_at front → solution_among low high constant before (front ++ after) ≡ solution_among low high constant (before ++ front) after
  gone_past constant before [] after h = ap (λ of. solution_among low high constant of after) (sym (append-nil before))
  gone_past constant before (mono ∷ front) after h =
      passed constant before mono (front ++ after) h.0 ∙ gone_past constant (before ++ mono ∷ []) front after h.1 ∙ ap (λ of. solution_among low high constant of after) (append_assoc before (mono ∷ []) front)

  pub none_found : (term : Term) → AllAtoms None_at (out-Term term).monos → solution low high term ≡ None
  none_found term h =
      ap (solution_among low high (out-Term term).constant []) (sym (append-nil (out-Term term).monos)) ∙ gone_past (out-Term term).constant [] (out-Term term).monos [] h

  module _ (var : ℕ) (from : low ≤ var) (to : var < high) where
    can : (unit : ℤ) (others : List Mono) → is_unit unit ≡ true → some_mention var others ≡ false → can_solve low high var unit others ≡ true
    can unit others is apart =
        let a : nat_lt var low ≡ false = grind (arith, nat_tests) in
        let b : nat_lt var high ≡ true = grind (arith, nat_tests) in
        ap (λ below. if below then false else if nat_lt var high then (if is_unit unit then (if some_mention var others then false else true) else false) else false) a
        ∙ ap (λ inside. if inside then (if is_unit unit then (if some_mention var others then false else true) else false) else false) b
        ∙ ap (λ one. if one then (if some_mention var others then false else true) else false) is
        ∙ ap (λ some. if some then false else true) apart

    pub found_at : (term : Term) (unit constant : ℤ) (front back : List Mono) → (out-Term term).monos ≡ front ++ record { coef = unit; atom = Var var } ∷ back → (out-Term term).constant ≡ constant
        → is_unit unit ≡ true → some_mention var (front ++ back) ≡ false → AllAtoms None_at front → solution low high term ≡ Some (record { var = var; by = times (negsuc 0 *ℤ unit) (sum_of (front ++ back) constant) })
    found_at term unit constant front back are is one apart none =
        (λ i. solution_among low high (is i) [] (are i)) ∙ gone_past constant [] front (record { coef = unit; atom = Var var } ∷ back) none
        ∙ ap (λ allowed. option_or (found_if allowed var (times (negsuc 0 *ℤ unit) (sum_of (front ++ back) constant))) (solution_among low high constant (front ++ record { coef = unit; atom = Var var } ∷ []) back))
        (can unit (front ++ back) one apart)
