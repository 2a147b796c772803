-- The raw terms that printed terms are read as, and the words that they are printed as.
use Rattle.std.proofs.Common.{ℕ, ℤ, ◌==◌, Bool, true, false, not, ◌&&◌, if◌then◌else◌, List, [], ◌∷◌, ◌++◌, Some, None, codes, decimal, unsigned_abs}
use Rattle.std.specs.Int.{is_negative}
use Rattle.spf_reltext.specs.Printed.{Naming}
use Rattle.spf_reltext.specs.Productions.{product, signed}
use Rattle.spf_reltext.specs.declared.raw.RawAtom.{RawAtom}
use Rattle.spf_reltext.specs.declared.raw.RawAtom.TheVariants.{Plain, Entry}
use Rattle.spf_reltext.specs.declared.raw.RawIx.{RawIx, roll-RawIx}
use Rattle.spf_reltext.specs.declared.raw.RawMono.{RawMono}
use Rattle.spf_term.specs.declared.term.Atom.{Atom}
use Rattle.spf_term.specs.declared.term.Term.{Term, Term', Row_of-Mono, end_of-Mono, more_of-Mono}

-- ---- the parts of a sum, of which the first has no `+`

abbrev pub sign_words : Bool → Bool → List (List ℕ)
sign_words first true = codes "-" ∷ []
sign_words true false = []
sign_words false false = codes "+" ∷ []

abbrev pub factor_words : ℤ → List (List ℕ)
factor_words c = if unsigned_abs c == 1 then [] else decimal (unsigned_abs c) ∷ codes "*" ∷ []

-- the constant is left out where it is 0 and not the first
abbrev pub is_left_out : Bool → ℤ → Bool
is_left_out first c = not first && (unsigned_abs c == 0)

abbrev pub constant_words : Bool → ℤ → List (List ℕ)
constant_words first c = if is_left_out first c then [] else sign_words first (is_negative c) ++ decimal (unsigned_abs c) ∷ []

abbrev pub raw_constant : Bool → ℤ → List RawMono
raw_constant first c = if is_left_out first c then [] else signed (is_negative c) (product (unsigned_abs c) None) ∷ []

module _ (naming : Naming) where
  abbrev mutual
    pub raw_term : Term → RawIx
    raw_term (Term' shape monos constant) = roll-RawIx (record { monos = raw_row true monos constant })

    pub raw_row : {n : _} → Bool → Row_of-Mono n → ℤ → List RawMono
    raw_row first end_of-Mono constant = raw_constant first constant
    raw_row first (more_of-Mono coef atom others) constant = signed (is_negative coef) (product (unsigned_abs coef) (Some (raw_atom atom))) ∷ raw_row false others constant

    pub raw_atom : Atom → RawAtom
    raw_atom (Atom.Var number) = Plain (naming.variable number)
    raw_atom (Atom.Param number) = Plain (naming.param number)
    raw_atom (Atom.App fun arg) = Entry (naming.fun fun) (raw_term arg)

  abbrev mutual
    pub term_words : Term → List (List ℕ)
    term_words (Term' shape monos constant) = row_words true monos constant

    pub row_words : {n : _} → Bool → Row_of-Mono n → ℤ → List (List ℕ)
    row_words first end_of-Mono constant = constant_words first constant
    row_words first (more_of-Mono coef atom others) constant = sign_words first (is_negative coef) ++ (factor_words coef ++ atom_words atom) ++ row_words false others constant

    pub atom_words : Atom → List (List ℕ)
    atom_words (Atom.Var number) = naming.variable number ∷ []
    atom_words (Atom.Param number) = naming.param number ∷ []
    atom_words (Atom.App fun arg) = naming.fun fun ∷ codes "[" ∷ (term_words arg ++ codes "]" ∷ [])
