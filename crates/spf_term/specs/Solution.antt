-- A term that is 0, solved for one of its variables.
use Rattle.std.specs.Prelude.{◌≡◌, ℕ, ◌+◌, ◌≤◌, ◌<◌, ℤ, pos, negsuc, ◌*ℤ◌, Bool, true, false, if◌then◌else◌, nat_eq, nat_lt, Option, None, Some, List, [], ◌∷◌, ◌++◌, length, take, drop, ◌↔◌}
use Rattle.std.specs.Option.{option_or}
use Rattle.std.specs.Ordering.{int_eq}
use Rattle.spf_term.specs.Environment.{Environment}
use Rattle.spf_term.specs.Normal.{IsNormal}
use Rattle.spf_term.specs.NumberRule.{excess}
use Rattle.spf_term.specs.Substitution.{IsReplaced, scaled}
use Rattle.spf_term.specs.Value.{number_at, value}
use Rattle.spf_term.specs.declared.solutions.Pivot.{Pivot}
use Rattle.spf_term.specs.declared.solutions.Solution.{Solution}
use Rattle.spf_term.specs.declared.term.Atom.{Atom, Var, Param, App}
use Rattle.spf_term.specs.declared.term.Mono.{Mono}
use Rattle.spf_term.specs.declared.term.Term.{Term, Term', out-Term, roll-Term, Row_of-Mono, end_of-Mono, more_of-Mono}

-- the variable occurs, in an argument too
abbrev mutual
  pub mentions : ℕ → Term → Bool
  mentions var (Term' shape monos constant) = sum_mentions var monos

  pub sum_mentions : {n : _} → ℕ → Row_of-Mono n → Bool
  sum_mentions var end_of-Mono = false
  sum_mentions var (more_of-Mono coef atom others) = if atom_mentions var atom then true else sum_mentions var others

  pub atom_mentions : ℕ → Atom → Bool
  atom_mentions var (Var number) = nat_eq number var
  atom_mentions var (Param number) = false
  atom_mentions var (App fun arg) = mentions var arg

-- the variable occurs in some monomial
abbrev pub some_mention : ℕ → List Mono → Bool
some_mention var [] = false
some_mention var (mono ∷ monos) = if atom_mentions var mono.atom then true else some_mention var monos

-- ---- signs

-- a factor times the term
abbrev pub times : ℤ → Term → Term
times factor term = roll-Term (record { monos = scaled factor (out-Term term).monos; constant = factor *ℤ (out-Term term).constant })

abbrev pub is_negative : ℤ → Bool
is_negative (pos number) = false
is_negative (negsuc number) = true

abbrev pub leads_negative : List Mono → Bool
leads_negative [] = false
leads_negative (mono ∷ monos) = is_negative mono.coef

-- the term, negated where its first monomial has a negative coefficient
abbrev pub oriented : Term → Term
oriented term = if leads_negative (out-Term term).monos then times (negsuc 0) term else term

-- ---- solutions

abbrev pub is_unit : ℤ → Bool
is_unit coef = if int_eq coef (pos 1) then true else int_eq coef (negsuc 0)

-- a variable of these numbers has coefficient 1 or -1, and doesn't occur in the other monomials
abbrev pub can_solve : ℕ → ℕ → ℕ → ℤ → List Mono → Bool
can_solve low high number coef others = if nat_lt number low then false else if nat_lt number high then (if is_unit coef then (if some_mention number others then false else true) else false) else false

abbrev pub solved_at : ℕ → ℕ → ℤ → ℤ → Atom → List Mono → Option Solution
solved_at low high constant coef (Var number) others =
    if can_solve low high number coef others then Some (record { var = number; by = times (negsuc 0 *ℤ coef) (roll-Term (record { monos = others; constant = constant })) }) else None
solved_at low high constant coef (Param number) others = None
solved_at low high constant coef (App fun arg) others = None

abbrev pub solution_among : ℕ → ℕ → ℤ → List Mono → List Mono → Option Solution
solution_among low high constant before [] = None
solution_among low high constant before (mono ∷ after) = option_or (solved_at low high constant mono.coef mono.atom (before ++ after)) (solution_among low high constant (before ++ mono ∷ []) after)

-- the first variable of these numbers, from `low` to below `high`, for which the term can be solved, and the term that it is equal to where the whole is 0
abbrev pub solution : ℕ → ℕ → Term → Option Solution
solution low high term = solution_among low high (out-Term term).constant [] (out-Term term).monos

-- what a solution tells
pub record Solves (low high : ℕ) (term : Term) (found : Solution) : Type 0 where
  pub from : low ≤ found.var
  pub below : found.var < high
  -- the whole is 0 exactly where the variable has the value of its term
  pub zero : (env : Environment) (variables : List ℤ) → (value env variables term ≡ pos 0) ↔ (number_at variables (pos found.var) ≡ value env variables found.by)
  -- the term doesn't depend on the variable
  pub apart : (env : Environment) (number : ℤ) (before after : List ℤ) → IsReplaced found.var number before after → value env after found.by ≡ value env before found.by

-- a solution is normal and keeps the number rule
pub record IsReady (found : Solution) : Type 0 where
  pub normal : IsNormal found.by
  pub keeps : excess found.by ≡ None

-- ---- where a term can be solved

abbrev pub solved_variable : ℕ → ℕ → ℤ → Atom → List Mono → Option ℕ
solved_variable low high coef (Var number) others = if can_solve low high number coef others then Some number else None
solved_variable low high coef (Param number) others = None
solved_variable low high coef (App fun arg) others = None

-- what a solution is, for the variable of the monomial at a place
abbrev pub solved_for : Term → Pivot → Solution
solved_for term pivot = record {
  var = pivot.var;
  by = times (negsuc 0 *ℤ pivot.coef) (roll-Term (record { monos = take pivot.place (out-Term term).monos ++ drop (pivot.place + 1) (out-Term term).monos; constant = (out-Term term).constant }));
}

pub record IsPlace (low high : ℕ) (term : Term) (pivot : Pivot) : Type 0 where
  pub inside : pivot.place < length (out-Term term).monos
  pub unit : is_unit pivot.coef ≡ true
  pub is : solution low high term ≡ Some (solved_for term pivot)

abbrev pub IsPivot : ℕ → ℕ → Term → Option Pivot → Type 0
IsPivot low high term None = solution low high term ≡ None
IsPivot low high term (Some pivot) = IsPlace low high term pivot
