-- The value of a term, and the entries of tables that are read for it.
use Rattle.std.specs.Prelude.{ℕ, ◌≤◌, ◌+◌, ℤ, pos, negsuc, ◌+ℤ◌, ◌*ℤ◌, ◌≤ℤ◌, ◌<ℤ◌, List, [], ◌∷◌, ◌++◌, length, All, slice_index_or, FitsSigned, Option, None, Some, ◌≡◌}
use Rattle.std.specs.Int.{w64}
use Rattle.std.specs.List.{Any}
use Rattle.spf_term.specs.Environment.{Environment}
use Rattle.spf_term.specs.declared.term.Atom.{Atom, Var, Param, App}
use Rattle.spf_term.specs.declared.term.Term.{Term, Term', Row_of-Mono, end_of-Mono, more_of-Mono}

-- an entry that is read: the number of its application, its table, and the place in the table
pub record Entry : Type 0 where
  pub site : ℕ
  pub table : ℕ
  pub place : ℤ

-- the number at a place of a list, and 0 outside its length
abbrev pub number_at : List ℤ → ℤ → ℤ
number_at numbers (pos place) = slice_index_or numbers place (pos 0)
number_at numbers (negsuc below) = pos 0

-- the table with a number, and an empty one where it isn't there
abbrev pub table_at : Environment → ℕ → List ℤ
table_at env number = slice_index_or env.tables number []

-- the place is one of the table
pub record IsInside (env : Environment) (entry : Entry) : Type 0 where
  pub low : pos 0 ≤ℤ entry.place
  pub high : entry.place <ℤ pos (length (table_at env entry.table))

-- the place is a number of 64 bits
abbrev pub HasSmallPlace : Entry → Type 0
HasSmallPlace entry = FitsSigned w64 entry.place

-- how many applications of tables a term has, nested ones counted
abbrev mutual
  pub applications : Term → ℕ
  applications (Term' shape monos constant) = sum_applications monos

  pub sum_applications : {n : _} → Row_of-Mono n → ℕ
  sum_applications end_of-Mono = 0
  sum_applications (more_of-Mono coef atom others) = atom_applications atom + sum_applications others

  pub atom_applications : Atom → ℕ
  atom_applications (Var number) = 0
  atom_applications (Param number) = 0
  atom_applications (App fun arg) = 1 + applications arg

module _ (env : Environment) (variables : List ℤ) where
  -- the sum of the monomials and the constant, an integer; a table is 0 outside its length, and so is a name that isn't there
  abbrev mutual
    pub value : Term → ℤ
    value (Term' shape monos constant) = sum_value monos +ℤ constant

    pub sum_value : {n : _} → Row_of-Mono n → ℤ
    sum_value end_of-Mono = pos 0
    sum_value (more_of-Mono coef atom others) = (coef *ℤ atom_value atom) +ℤ sum_value others

    pub atom_value : Atom → ℤ
    atom_value (Var number) = number_at variables (pos number)
    atom_value (Param number) = number_at env.params (pos number)
    atom_value (App fun arg) = number_at (table_at env fun) (value arg)

  -- the entries that are read, in the order of evaluation: an argument is evaluated before the entry at it is read. Applications
  -- have the numbers from `site` on, in the order in which their tables' names stand
  abbrev mutual
    pub entries : ℕ → Term → List Entry
    entries site (Term' shape monos constant) = sum_entries site monos

    pub sum_entries : {n : _} → ℕ → Row_of-Mono n → List Entry
    sum_entries site end_of-Mono = []
    sum_entries site (more_of-Mono coef atom others) = atom_entries site atom ++ sum_entries (site + atom_applications atom) others

    pub atom_entries : ℕ → Atom → List Entry
    atom_entries site (Var number) = []
    atom_entries site (Param number) = []
    atom_entries site (App fun arg) = entries (site + 1) arg ++ record { site = site; table = fun; place = value arg } ∷ []

  -- the value and each place that is read are numbers of 64 bits, and the term isn't long
  pub record IsSmall (term : Term) : Type 0 where
    pub value : FitsSigned w64 (value term)
    pub places : (site : ℕ) → All HasSmallPlace (entries site term)
    pub few : applications term ≤ 16384

  -- the value, where each entry that is read is inside its table; none, where some entry isn't
  abbrev pub IsAnswer : Term → Option ℤ → Type 0
  IsAnswer term None = Any (λ (entry : Entry). ¬ IsInside env entry) (entries 0 term)
  IsAnswer term (Some number) = All (IsInside env) (entries 0 term) × (number ≡ value term)
