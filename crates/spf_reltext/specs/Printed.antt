-- The text that a set or relation is printed as. What stands in front of a part of a list depends on the part's number.
use Rattle.std.specs.Prelude.{ℕ, ◌+◌, ◌-◌, ◌==◌, nat_lt, ℤ, Bool, true, false, not, ◌&&◌, if◌then◌else◌, List, [], ◌∷◌, ◌++◌, length, codes, decimal, slice_get, unsigned_abs, Option, None, Some}
use Rattle.std.specs.Int.{is_negative}
use Rattle.std.specs.List.{range_with_len}
use Rattle.std.specs.Option.{unwrap_or}
use Rattle.spf_rel.specs.declared.relation.Conj.{Conj}
use Rattle.spf_rel.specs.declared.relation.Rel.{Rel}
use Rattle.spf_rel.specs.declared.relation.Set.{Set}
use Rattle.spf_reltext.specs.declared.names.RelNames.{RelNames}
use Rattle.spf_reltext.specs.declared.print_sides.Side.{Side}
use Rattle.spf_reltext.specs.declared.print_sides.Side.TheVariants.{Left, Right}
use Rattle.spf_term.specs.declared.term.Atom.{Atom}
use Rattle.spf_term.specs.declared.term.Mono.{Mono}
use Rattle.spf_term.specs.declared.term.Term.{Term, Term', out-Term, Row_of-Mono, end_of-Mono, more_of-Mono}

-- ---- lists

-- what stands in front of part n of a list
abbrev pub lead : List ℕ → List ℕ → ℕ → List ℕ
lead opening between n = if n == 0 then opening else between

-- the parts, of which the first is part n
abbrev pub parts_from : {A : Type 0} → List ℕ → List ℕ → (A → List ℕ) → ℕ → List A → List ℕ
parts_from opening between print n [] = []
parts_from opening between print n (x ∷ xs) = lead opening between n ++ print x ++ parts_from opening between print (n + 1) xs

abbrev pub numbered : List ℕ → ℕ → List ℕ
numbered letter n = letter ++ decimal n

-- so many variables of this letter, by their numbers
abbrev pub variables_text : List ℕ → List ℕ → ℕ → List ℕ
variables_text opening letter count = parts_from opening (codes ", ") (numbered letter) 0 (range_with_len 0 count)

abbrev pub tuple_text : List ℕ → ℕ → List ℕ
tuple_text letter count = codes "[" ++ variables_text [] letter count ++ codes "]"

-- ---- sums

-- a coefficient in front of an atom, without its sign
abbrev pub factor_text : ℤ → List ℕ
factor_text c = if unsigned_abs c == 1 then [] else decimal (unsigned_abs c) ++ codes " * "

-- the sign in front of part n of a sum
abbrev pub sign_text : ℕ → Bool → List ℕ
sign_text n true = lead (codes "-") (codes " - ") n
sign_text n false = lead [] (codes " + ") n

-- the constant behind n monomials, which is left out there where it is 0
abbrev pub constant_text : ℕ → ℤ → List ℕ
constant_text n c = if not (n == 0) && (unsigned_abs c == 0) then [] else sign_text n (is_negative c) ++ decimal (unsigned_abs c)

-- the part of a constraint that a coefficient or constant is printed in: the positive ones on the left
abbrev pub is_on : Side → ℤ → Bool
is_on Left c = not (is_negative c) && not (unsigned_abs c == 0)
is_on Right c = not (not (is_negative c) && not (unsigned_abs c == 0))

abbrev pub amount : Side → ℤ → ℕ
amount side c = if is_on side c then unsigned_abs c else 0

-- the constant of a side behind n monomials
abbrev pub rest_text : Side → ℕ → ℤ → List ℕ
rest_text side n c = if not (n == 0) && (amount side c == 0) then [] else lead [] (codes " + ") n ++ decimal (amount side c)

-- ---- names

abbrev pub name_at : List (List ℕ) → ℕ → List ℕ
name_at names number = unwrap_or (slice_get names number) []

-- inputs are X, outputs Y, and inner variables E
module _ (ins outs : ℕ) where
  abbrev pub variable_text : ℕ → List ℕ
  variable_text n =
      if nat_lt n ins then numbered (codes "X") n
      else if nat_lt (n - ins) outs then numbered (codes "Y") (n - ins)
      else numbered (codes "E") (n - ins - outs)

-- how variables, parameters and functions are written, each by its number
pub record Naming : Type 0 where
  pub variable : ℕ → List ℕ
  pub param : ℕ → List ℕ
  pub fun : ℕ → List ℕ

-- how those of sets and relations are written
abbrev pub rel_naming : ℕ → ℕ → RelNames → Naming
rel_naming ins outs names = record { variable = variable_text ins outs; param = name_at names.params; fun = name_at names.funs }

module _ (naming : Naming) where
  -- ---- terms

  abbrev mutual
    pub term_text : Term → List ℕ
    term_text (Term' shape monos constant) = monos_text 0 monos constant

    pub monos_text : {n : _} → ℕ → Row_of-Mono n → ℤ → List ℕ
    monos_text at end_of-Mono constant = constant_text at constant
    monos_text at (more_of-Mono coef atom others) constant = sign_text at (is_negative coef) ++ (factor_text coef ++ atom_text atom) ++ monos_text (at + 1) others constant

    pub atom_text : Atom → List ℕ
    atom_text (Atom.Var number) = naming.variable number
    atom_text (Atom.Param number) = naming.param number
    atom_text (Atom.App fun arg) = naming.fun fun ++ codes "[" ++ term_text arg ++ codes "]"

  abbrev pub mono_text : Mono → List ℕ
  mono_text mono = factor_text mono.coef ++ atom_text mono.atom

  -- the monomials, of which the first is part n of the sum, and the constant
  abbrev pub sum_from : ℕ → List Mono → ℤ → List ℕ
  sum_from n [] constant = constant_text n constant
  sum_from n (mono ∷ monos) constant = sign_text n (is_negative mono.coef) ++ mono_text mono ++ sum_from (n + 1) monos constant

  -- ---- constraints

  -- the monomials of a side, of which the first is its part n, and its constant
  abbrev pub side_from : Side → ℕ → List Mono → ℤ → List ℕ
  side_from side n [] constant = rest_text side n constant
  side_from side n (mono ∷ monos) constant =
      if is_on side mono.coef then lead [] (codes " + ") n ++ mono_text mono ++ side_from side (n + 1) monos constant else side_from side n monos constant

  abbrev pub side_text : Side → Term → List ℕ
  side_text side term = side_from side 0 (out-Term term).monos (out-Term term).constant

  abbrev pub constraint_text : List ℕ → Term → List ℕ
  constraint_text sign term = side_text Left term ++ sign ++ side_text Right term

  -- the constraints, the first of them behind this
  abbrev pub constraints_text : List ℕ → List ℕ → List Term → List ℕ
  constraints_text opening sign terms = parts_from opening (codes " and ") (constraint_text sign) 0 terms

  -- equalities and then inequalities
  abbrev pub body_text : Conj → List ℕ
  body_text conj =
      constraints_text (codes " : ") (codes " = ") conj.equal ++ constraints_text (lead (codes " : ") (codes " and ") (length conj.equal)) (codes " >= ") conj.least

-- ---- sets and relations; a set has no outputs

abbrev pub head_text : ℕ → Option ℕ → List ℕ
head_text ins None = tuple_text (codes "X") ins
head_text ins (Some outs) = tuple_text (codes "X") ins ++ codes " -> " ++ tuple_text (codes "Y") outs

module _ (ins : ℕ) (outs : Option ℕ) (names : RelNames) where
  abbrev pub conj_text : Conj → List ℕ
  conj_text conj =
      codes "{ " ++ head_text ins outs ++ variables_text (codes " with ") (codes "E") conj.inner ++ body_text (rel_naming ins (unwrap_or outs 0) names) conj ++ codes " }"

abbrev pub none_text : ℕ → Option ℕ → List ℕ
none_text ins None = codes "none(" ++ decimal ins ++ codes ")"
none_text ins (Some outs) = codes "none(" ++ decimal ins ++ codes ", " ++ decimal outs ++ codes ")"

abbrev pub conjs_text : ℕ → Option ℕ → RelNames → List Conj → List ℕ
conjs_text ins outs names [] = none_text ins outs
conjs_text ins outs names (conj ∷ conjs) = parts_from [] (codes " | ") (conj_text ins outs names) 0 (conj ∷ conjs)

abbrev pub rel_text : RelNames → Rel → List ℕ
rel_text names rel = conjs_text rel.ins (Some rel.outs) names rel.conjs

abbrev pub set_text : RelNames → Set → List ℕ
set_text names set = conjs_text set.arity None names set.conjs
