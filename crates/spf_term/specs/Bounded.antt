-- Terms and numbers so small that no value passes 64 bits.
use Rattle.std.specs.Prelude.{ℕ, ◌+◌, ◌^◌, ◌≤◌, ℤ, List, All, unsigned_abs, ⊤}
use Rattle.spf_term.specs.Environment.{Environment}
use Rattle.spf_term.specs.declared.term.Atom.{Atom, Var, Param, App}
use Rattle.spf_term.specs.declared.term.Term.{Term, Term', Row_of-Mono, end_of-Mono, more_of-Mono}

-- the number is no farther from 0 than this
abbrev pub IsWithin : ℕ → ℤ → Type 0
IsWithin limit number = unsigned_abs number ≤ limit

-- how many monomials a term has, nested ones counted
abbrev mutual
  pub monomials : Term → ℕ
  monomials (Term' shape monos constant) = sum_monomials monos

  pub sum_monomials : {n : _} → Row_of-Mono n → ℕ
  sum_monomials end_of-Mono = 0
  sum_monomials (more_of-Mono coef atom others) = 1 + atom_monomials atom + sum_monomials others

  pub atom_monomials : Atom → ℕ
  atom_monomials (Var number) = 0
  atom_monomials (Param number) = 0
  atom_monomials (App fun arg) = monomials arg

-- each coefficient is within 2^20, and each constant within 2^28, in arguments too
abbrev mutual
  pub HasSmallNumbers : Term → Type 0
  HasSmallNumbers (Term' shape monos constant) = HaveSmallNumbers monos × IsWithin (2 ^ 28) constant

  pub HaveSmallNumbers : {n : _} → Row_of-Mono n → Type 0
  HaveSmallNumbers end_of-Mono = ⊤
  HaveSmallNumbers (more_of-Mono coef atom others) = IsWithin (2 ^ 20) coef × AtomHasSmallNumbers atom × HaveSmallNumbers others

  pub AtomHasSmallNumbers : Atom → Type 0
  AtomHasSmallNumbers (Var number) = ⊤
  AtomHasSmallNumbers (Param number) = ⊤
  AtomHasSmallNumbers (App fun arg) = HasSmallNumbers arg

-- a term as an index expression of a kernel may be
pub record IsBounded (term : Term) : Type 0 where
  pub few : monomials term ≤ 64
  pub small : HasSmallNumbers term

-- the numbers that such a term may read are within 2^22
pub record AreWithin (env : Environment) (variables : List ℤ) : Type 0 where
  pub params : All (IsWithin (2 ^ 22)) env.params
  pub tables : All (All (IsWithin (2 ^ 22))) env.tables
  pub values : All (IsWithin (2 ^ 22)) variables
