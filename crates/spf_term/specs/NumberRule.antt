-- The numbers of a term, and which of them are too large.
use Rattle.std.specs.Prelude.{◌≡◌, ◌^◌, ◌-◌, min, map, ℤ, pos, Bool, if◌then◌else◌, nat_lt, unsigned_abs, Option, None, Some, List, [], ◌∷◌, ◌++◌, Result, Ok, Err, ⊤}
use Rattle.std.specs.List.{find}
use Rattle.spf_term.specs.Bounded.{monomials}
use Rattle.spf_term.specs.declared.fault.TermFault.{TermFault}
use Rattle.spf_term.specs.declared.fault.TermFault.TheVariants.{Wide, Memory}
use Rattle.spf_term.specs.declared.term.Atom.{Atom, Var, Param, App}
use Rattle.spf_term.specs.declared.term.Mono.{Mono}
use Rattle.spf_term.specs.declared.term.Term.{Term, Term', Row_of-Mono, end_of-Mono, more_of-Mono}

-- the coefficients and constants as they stand: a coefficient is before the numbers of its argument, and a constant is last
abbrev mutual
  pub numbers : Term → List ℤ
  numbers (Term' shape monos constant) = sum_numbers monos ++ constant ∷ []

  pub sum_numbers : {n : _} → Row_of-Mono n → List ℤ
  sum_numbers end_of-Mono = []
  sum_numbers (more_of-Mono coef atom others) = (coef ∷ atom_numbers atom) ++ sum_numbers others

  pub atom_numbers : Atom → List ℤ
  atom_numbers (Var number) = []
  atom_numbers (Param number) = []
  atom_numbers (App fun arg) = numbers arg

abbrev pub mono_numbers : Mono → List ℤ
mono_numbers mono = mono.coef ∷ atom_numbers mono.atom

-- the number is not from -2^62 to 2^62
abbrev pub is_outside : ℤ → Bool
is_outside number = nat_lt (2 ^ 62) (unsigned_abs number)

-- where the number rule is passed: the number of monomials, if there are too many, or else the first number that is too large
abbrev pub excess : Term → Option ℤ
excess term = if nat_lt 16384 (monomials term) then Some (pos (min (monomials term) (2 ^ 64 - 1))) else find is_outside (numbers term)

-- an argument keeps the number rule
abbrev pub AtomKeepsRule : Atom → Type 0
AtomKeepsRule (Var number) = ⊤
AtomKeepsRule (Param number) = ⊤
AtomKeepsRule (App fun arg) = excess arg ≡ None

-- what the first test that is failed tells
abbrev pub first_excess : List (Option ℤ) → Option ℤ
first_excess [] = None
first_excess (None ∷ tests) = first_excess tests
first_excess (Some number ∷ tests) = Some number

-- where these terms keep the number rule, in their order, the term is made; else the first of them that doesn't is told
abbrev pub IsTested : List Term → Term → Result Term TermFault → Type 0
IsTested tested wanted (Ok made) = (first_excess (map excess tested) ≡ None) × (made ≡ wanted)
IsTested tested wanted (Err (Wide number)) = first_excess (map excess tested) ≡ Some number
IsTested tested wanted (Err Memory) = ⊤
