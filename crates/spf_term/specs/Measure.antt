-- What the numbers of a term amount to together, those of arguments too.
use Rattle.std.specs.Prelude.{ℕ, ◌+◌, ℤ, max, unsigned_abs}
use Rattle.spf_term.specs.declared.term.Atom.{Atom, Var, Param, App}
use Rattle.spf_term.specs.declared.term.Term.{Term, Term', Row_of-Mono, end_of-Mono, more_of-Mono}

-- what a coefficient counts, and what a constant counts
pub record Measure : Type 0 where
  pub coef : ℤ → ℕ
  pub constant : ℤ → ℕ

module _ (by : Measure) where
  abbrev mutual
    pub measured : Term → ℕ
    measured (Term' shape monos constant) = sum_measured monos + by.constant constant

    pub sum_measured : {n : _} → Row_of-Mono n → ℕ
    sum_measured end_of-Mono = 0
    sum_measured (more_of-Mono coef atom others) = by.coef coef + atom_measured atom + sum_measured others

    pub atom_measured : Atom → ℕ
    atom_measured (Var number) = 0
    atom_measured (Param number) = 0
    atom_measured (App fun arg) = measured arg

-- how many monomials there are
abbrev pub by_count : Measure
by_count = record { coef = λ coef. 1; constant = λ constant. 0 }

-- how far the numbers are from 0, together
abbrev pub by_size : Measure
by_size = record { coef = unsigned_abs; constant = unsigned_abs }

-- how many times a term comes in place of variables, at most
abbrev pub by_factor : Measure
by_factor = record { coef = λ coef. max 1 (unsigned_abs coef); constant = λ constant. 0 }

abbrev pub size : Term → ℕ
size = measured by_size

abbrev pub factor : Term → ℕ
factor = measured by_factor
