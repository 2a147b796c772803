-- What a solution tells, and what orientation keeps.
use Rattle.std.proofs.Common.{◌≡◌, ◌⊎◌, inl, inr, ℕ, ◌≤◌, ◌<◌, ℤ, pos, negsuc, ◌+ℤ◌, ◌*ℤ◌, ◌↔◌, List, [], ◌∷◌, ◌++◌, Bool, true, false, if◌then◌else◌, Option, None, Some, nat_lt, refl, ap, sym, ◌∙◌, append_assoc, subst, arith}
use Rattle.std.proofs.Math.IntN.{zero-*ℤ, suc_ℤ-*ℤ, pred_ℤ-*ℤ}
use Rattle.std.proofs.lemmas.Bool.Decides.{Decides-int_eq, nat_tests}
use Rattle.std.proofs.lemmas.Int.{ints}
use Rattle.std.specs.Option.{option_or}
use Rattle.std.specs.Ordering.{int_eq}
use Rattle.spf_term.specs.Environment.{Environment}
use Rattle.spf_term.specs.Solution.{Solves, atom_mentions, can_solve, is_unit, leads_negative, mentions, oriented, solution, solution_among, solved_at, some_mention, sum_mentions, times}
use Rattle.spf_term.specs.Substitution.{IsReplaced, scaled}
use Rattle.spf_term.specs.Value.{atom_value, number_at, sum_value, table_at, value}
use Rattle.spf_term.specs.declared.solutions.Solution.{Solution}
use Rattle.spf_term.specs.declared.term.Atom.{Atom, Var, Param, App}
use Rattle.spf_term.specs.declared.term.Mono.{Mono}
use Rattle.spf_term.specs.declared.term.Term.{Term, Term', out-Term, Row_of-Mono, end_of-Mono, more_of-Mono}
use Rattle.spf_term.proofs.Monos.{list_value, value_is}
use Rattle.spf_term.proofs.Substituted.{scaled_weighed}
use Rattle.spf_term.proofs.Weights.{spread_right, weighed, weighed_append}
use Rattle.spf_term.proofs.Wides.{out_constant, out_monos, sum_of}

-- ---- a factor times a term

pub times_value : (env : Environment) (variables : List ℤ) (factor : ℤ) (term : Term) → value env variables (times factor term) ≡ factor *ℤ value env variables term
times_value env variables factor term =
    let monos = scaled factor (out-Term term).monos in
    let constant = factor *ℤ (out-Term term).constant in
    value_is env variables (sum_of monos constant)
    ∙ (λ i. list_value env variables (out_monos monos constant i) +ℤ out_constant monos constant i)
    ∙ ap (λ (sum : ℤ). sum +ℤ constant) (scaled_weighed (atom_value env variables) factor (out-Term term).monos)
    ∙ sym (spread_right factor (list_value env variables (out-Term term).monos) (out-Term term).constant)
    ∙ ap (λ (number : ℤ). factor *ℤ number) (sym (value_is env variables term))

pub times_one : (number : ℤ) → pos 1 *ℤ number ≡ number
times_one number = let e = suc_ℤ-*ℤ (pos 0) number in let z = zero-*ℤ number in omega (arith, ints, e, z)

pub times_minus : (number : ℤ) → (negsuc 0 *ℤ number) +ℤ number ≡ pos 0
times_minus number = let e = pred_ℤ-*ℤ (pos 0) number in let z = zero-*ℤ number in omega (arith, ints, e, z)

oriented_zero : (negative : Bool) (env : Environment) (variables : List ℤ) (term : Term) → (value env variables (if negative then times (negsuc 0) term else term) ≡ pos 0) ↔ (value env variables term ≡ pos 0)
oriented_zero true env variables term =
    let e = times_value env variables (negsuc 0) term in
    let m = times_minus (value env variables term) in
    (λ zero. omega (arith, ints, e, m, zero), λ zero. omega (arith, ints, e, m, zero))
oriented_zero false env variables term = (λ zero. zero, λ zero. zero)

pub oriented_alike : (env : Environment) (variables : List ℤ) (term : Term) → (value env variables (oriented term) ≡ pos 0) ↔ (value env variables term ≡ pos 0)
oriented_alike env variables term = oriented_zero (leads_negative (out-Term term).monos) env variables term

-- ---- variables that don't occur

module _ (env : Environment) (var : ℕ) (number : ℤ) (before after : List ℤ) (replaced : IsReplaced var number before after) where
  either_false : (first second : Bool) → (if first then true else second) ≡ false → (first ≡ false) × (second ≡ false)
  either_false true second is = cc
  either_false false second is = (refl, is)

  mutual
    atom_apart : (atom : Atom) → atom_mentions var atom ≡ false → atom_value env after atom ≡ atom_value env before atom
    atom_apart (Var other) none = replaced.others other none
    atom_apart (Param other) none = refl
    atom_apart (App fun arg) none = ap (number_at (table_at env fun)) (term_apart arg none)

    row_apart : {n : _} (row : Row_of-Mono n) → sum_mentions var row ≡ false → sum_value env after row ≡ sum_value env before row
    row_apart end_of-Mono none = refl
    row_apart (more_of-Mono coef atom others) none =
        let parts = either_false (atom_mentions var atom) (sum_mentions var others) none in
        λ i. (coef *ℤ atom_apart atom parts.0 i) +ℤ row_apart others parts.1 i

    term_apart : (term : Term) → mentions var term ≡ false → value env after term ≡ value env before term
    term_apart (Term' shape monos constant) none = ap (λ (sum : ℤ). sum +ℤ constant) (row_apart monos none)

  pub list_apart : (monos : List Mono) → some_mention var monos ≡ false → list_value env after monos ≡ list_value env before monos
  list_apart [] none = refl
  list_apart (mono ∷ monos) none =
      let parts = either_false (atom_mentions var mono.atom) (some_mention var monos) none in
      λ i. (mono.coef *ℤ atom_apart mono.atom parts.0 i) +ℤ list_apart monos parts.1 i

-- ---- a solution

-- the monomial of a variable, and the others
pub record Found (low high : ℕ) (constant : ℤ) (monos : List Mono) (found : Solution) : Type 0 where
  pub coef : ℤ
  pub others : List Mono
  pub can : can_solve low high found.var coef others ≡ true
  pub by : found.by ≡ times (negsuc 0 *ℤ coef) (sum_of others constant)
  pub weighs : (weight : Atom → ℤ) → weighed weight monos ≡ (coef *ℤ weight (Var found.var)) +ℤ weighed weight others
  pub front : List Mono
  pub mono : Mono
  pub back : List Mono
  pub are : monos ≡ front ++ mono ∷ back
  pub rest : others ≡ front ++ back

record Here (low high : ℕ) (constant coef : ℤ) (atom : Atom) (others : List Mono) (found : Solution) : Type 0 where
  pub can : can_solve low high found.var coef others ≡ true
  pub by : found.by ≡ times (negsuc 0 *ℤ coef) (sum_of others constant)
  pub is : atom ≡ Var found.var

module _ (low high : ℕ) (constant : ℤ) where
  here_by : (can : Bool) (number : ℕ) (coef : ℤ) (others : List Mono) (found : Solution) → can_solve low high number coef others ≡ can
      → (if can then Some (record { var = number; by = times (negsuc 0 *ℤ coef) (sum_of others constant) }) else None) ≡ Some found → Here low high constant coef (Var number) others found
  here_by true number coef others found can is =
      let made : Solution = record { var = number; by = times (negsuc 0 *ℤ coef) (sum_of others constant) } in
      let same : made ≡ found = cc in
      subst (Here low high constant coef (Var number) others) same (record { can = can; by = refl; is = refl })
  here_by false number coef others found can is = cc

  here : (coef : ℤ) (atom : Atom) (others : List Mono) (found : Solution) → solved_at low high constant coef atom others ≡ Some found → Here low high constant coef atom others found
  here coef (Var number) others found is = here_by (can_solve low high number coef others) number coef others found refl is
  here coef (Param number) others found is = cc
  here coef (App fun arg) others found is = cc

  swapped : (a b c : ℤ) → a +ℤ (b +ℤ c) ≡ b +ℤ (a +ℤ c)
  swapped a b c = omega (arith, ints)

  found_here : (before after : List Mono) (mono : Mono) (found : Solution) → Here low high constant mono.coef mono.atom (before ++ after) found → Found low high constant (before ++ mono ∷ after) found
  found_here before after mono found h = record {
    coef = mono.coef;
    others = before ++ after;
    can = h.can;
    by = h.by;
    weighs = λ weight.
        weighed_append weight before (mono ∷ after) ∙ swapped (weighed weight before) (mono.coef *ℤ weight mono.atom) (weighed weight after)
        ∙ (λ i. (mono.coef *ℤ weight (h.is i)) +ℤ sym (weighed_append weight before after) i);
    front = before;
    mono = mono;
    back = after;
    are = refl;
    rest = refl;
  }

  found_by : (first : Option Solution) (before after : List Mono) (mono : Mono) (found : Solution) → solved_at low high constant mono.coef mono.atom (before ++ after) ≡ first
      → (solution_among low high constant (before ++ mono ∷ []) after ≡ Some found → Found low high constant ((before ++ mono ∷ []) ++ after) found)
      → option_or first (solution_among low high constant (before ++ mono ∷ []) after) ≡ Some found → Found low high constant (before ++ mono ∷ after) found
  found_by (Some other) before after mono found at later is = found_here before after mono found (here mono.coef mono.atom (before ++ after) found (at ∙ is))
  found_by None before after mono found at later is = subst (λ monos. Found low high constant monos found) (append_assoc before (mono ∷ []) after) (later is)

  found_among : (before after : List Mono) (found : Solution) → solution_among low high constant before after ≡ Some found → Found low high constant (before ++ after) found
  found_among before [] found is = cc
  found_among before (mono ∷ after) found is =
      found_by (solved_at low high constant mono.coef mono.atom (before ++ after)) before after mono found refl (found_among (before ++ mono ∷ []) after found) is

-- what the tests of a solution tell
record Allowed (low high number : ℕ) (coef : ℤ) (others : List Mono) : Type 0 where
  pub from : low ≤ number
  pub below : number < high
  pub unit : (coef ≡ pos 1) ⊎ (coef ≡ negsuc 0)
  pub none : some_mention number others ≡ false

unit_by : (one : Bool) (coef : ℤ) → int_eq coef (pos 1) ≡ one → (if one then true else int_eq coef (negsuc 0)) ≡ true → (coef ≡ pos 1) ⊎ (coef ≡ negsuc 0)
unit_by true coef is unit = inl ((Decides-int_eq coef (pos 1)).0 is)
unit_by false coef is unit = inr ((Decides-int_eq coef (negsuc 0)).0 unit)

allowed_by : (low high number : ℕ) (coef : ℤ) (others : List Mono) (a b c d : Bool) → nat_lt number low ≡ a → nat_lt number high ≡ b → is_unit coef ≡ c → some_mention number others ≡ d
    → (if a then false else if b then (if c then (if d then false else true) else false) else false) ≡ true → Allowed low high number coef others
allowed_by low high number coef others true b c d is_a is_b is_c is_d is = cc
allowed_by low high number coef others false false c d is_a is_b is_c is_d is = cc
allowed_by low high number coef others false true false d is_a is_b is_c is_d is = cc
allowed_by low high number coef others false true true true is_a is_b is_c is_d is = cc
allowed_by low high number coef others false true true false is_a is_b is_c is_d is =
    record { from = grind (arith, nat_tests); below = grind (arith, nat_tests); unit = unit_by (int_eq coef (pos 1)) coef refl is_c; none = is_d }

allowed : (low high number : ℕ) (coef : ℤ) (others : List Mono) → can_solve low high number coef others ≡ true → Allowed low high number coef others
allowed low high number coef others is = allowed_by low high number coef others (nat_lt number low) (nat_lt number high) (is_unit coef) (some_mention number others) refl refl refl refl is

module _ (coef at rest whole by : ℤ) (is_whole : whole ≡ (coef *ℤ at) +ℤ rest) (is_by : by ≡ (negsuc 0 *ℤ coef) *ℤ rest) where
  zero_by : (coef ≡ pos 1) ⊎ (coef ≡ negsuc 0) → (whole ≡ pos 0) ↔ (at ≡ by)
  zero_by (inl one) =
      let w : whole ≡ at +ℤ rest = is_whole ∙ ap (λ (of : ℤ). (of *ℤ at) +ℤ rest) one ∙ ap (λ (of : ℤ). of +ℤ rest) (times_one at) in
      let b : by ≡ negsuc 0 *ℤ rest = is_by ∙ ap (λ (of : ℤ). (negsuc 0 *ℤ of) *ℤ rest) one in
      let m = times_minus rest in
      (λ zero. omega (arith, ints, w, b, m, zero), λ same. omega (arith, ints, w, b, m, same))
  zero_by (inr minus) =
      let w : whole ≡ (negsuc 0 *ℤ at) +ℤ rest = is_whole ∙ ap (λ (of : ℤ). (of *ℤ at) +ℤ rest) minus in
      let b : by ≡ rest = is_by ∙ ap (λ (of : ℤ). (negsuc 0 *ℤ of) *ℤ rest) minus ∙ times_one rest in
      let m = times_minus at in
      (λ zero. omega (arith, ints, w, b, m, zero), λ same. omega (arith, ints, w, b, m, same))

module _ (low high : ℕ) (term : Term) (found : Solution) (h : Found low high (out-Term term).constant (out-Term term).monos found) where
  abbrev constant : ℤ
  constant = (out-Term term).constant

  rest_value : (env : Environment) (variables : List ℤ) → value env variables (sum_of h.others constant) ≡ list_value env variables h.others +ℤ constant
  rest_value env variables = value_is env variables (sum_of h.others constant) ∙ (λ i. list_value env variables (out_monos h.others constant i) +ℤ out_constant h.others constant i)

  by_value : (env : Environment) (variables : List ℤ) → value env variables found.by ≡ (negsuc 0 *ℤ h.coef) *ℤ (list_value env variables h.others +ℤ constant)
  by_value env variables = ap (value env variables) h.by ∙ times_value env variables (negsuc 0 *ℤ h.coef) (sum_of h.others constant) ∙ ap (λ (number : ℤ). (negsuc 0 *ℤ h.coef) *ℤ number) (rest_value env variables)

  grouped_sum : (a b c : ℤ) → (a +ℤ b) +ℤ c ≡ a +ℤ (b +ℤ c)
  grouped_sum a b c = omega (arith, ints)

  whole_value : (env : Environment) (variables : List ℤ) → value env variables term ≡ (h.coef *ℤ number_at variables (pos found.var)) +ℤ (list_value env variables h.others +ℤ constant)
  whole_value env variables = value_is env variables term ∙ ap (λ (sum : ℤ). sum +ℤ constant) (h.weighs (atom_value env variables)) ∙ grouped_sum (h.coef *ℤ number_at variables (pos found.var)) (list_value env variables h.others) constant

  solves : Solves low high term found
  solves =
      let may = allowed low high found.var h.coef h.others h.can in
      record {
        from = may.from;
        below = may.below;
        zero = λ env variables. zero_by h.coef (number_at variables (pos found.var)) (list_value env variables h.others +ℤ constant) (value env variables term) (value env variables found.by) (whole_value env variables) (by_value env variables) may.unit;
        apart = λ env number before after replaced.
            by_value env after ∙ ap (λ (sum : ℤ). (negsuc 0 *ℤ h.coef) *ℤ (sum +ℤ constant)) (list_apart env found.var number before after replaced h.others may.none) ∙ sym (by_value env before);
      }

pub found_in : (low high : ℕ) (term : Term) (found : Solution) → solution low high term ≡ Some found → Found low high (out-Term term).constant (out-Term term).monos found
found_in low high term found is = found_among low high (out-Term term).constant [] (out-Term term).monos found is

pub unit_of : (low high number : ℕ) (coef : ℤ) (others : List Mono) → can_solve low high number coef others ≡ true → (coef ≡ pos 1) ⊎ (coef ≡ negsuc 0)
unit_of low high number coef others is = (allowed low high number coef others is).unit

pub solution_solves : (low high : ℕ) (term : Term) (found : Solution) → solution low high term ≡ Some found → Solves low high term found
solution_solves low high term found is = solves low high term found (found_in low high term found is)
