-- Where a term has small numbers and reads small ones, its value and the places that are read for it are small.
use Rattle.std.specs.Prelude.{ℕ, zero, suc, ◌+◌, ◌*◌, ◌^◌, ◌≤◌, ℤ, pos, negsuc, ◌*ℤ◌, List, [], ◌∷◌, All, slice_index_or, FitsSigned}
use Rattle.std.specs.Int.{w64}
use Rattle.std.proofs.Common.{arith}
use Rattle.std.proofs.lemmas.Int.{ints, unsigned_abs-mul}
use Rattle.std.proofs.lemmas.List.Elements.{All-append, All-cons}
use Rattle.std.proofs.lemmas.Nat.{mul-le}
use Rattle.spf_term.specs.Bounded.{AreWithin, IsBounded, IsWithin, HasSmallNumbers, HaveSmallNumbers, AtomHasSmallNumbers, monomials, sum_monomials, atom_monomials}
use Rattle.spf_term.specs.Environment.{Environment}
use Rattle.spf_term.specs.Value.{Entry, HasSmallPlace, IsSmall, applications, sum_applications, number_at, table_at, value, sum_value, atom_value, entries, sum_entries, atom_entries, atom_applications}
use Rattle.spf_term.specs.declared.term.Atom.{Atom, Var, Param, App}
use Rattle.spf_term.specs.declared.term.Term.{Term, Term', Row_of-Mono, end_of-Mono, more_of-Mono}

-- ---- lists of small numbers

listed_within : (limit : ℕ) (numbers : List ℤ) (place : ℕ) → All (IsWithin limit) numbers → IsWithin limit (slice_index_or numbers place (pos 0))
listed_within limit [] place h = omega (arith, ints)
listed_within limit (number ∷ numbers) zero h = h 0 (pos 0) (omega arith)
listed_within limit (number ∷ numbers) (suc place) h = listed_within limit numbers place (λ k d inside. h (suc k) d (omega arith))

number_within : (limit : ℕ) (numbers : List ℤ) (place : ℤ) → All (IsWithin limit) numbers → IsWithin limit (number_at numbers place)
number_within limit numbers (pos place) h = listed_within limit numbers place h
number_within limit numbers (negsuc place) h = omega (arith, ints)

table_within : (limit : ℕ) (tables : List (List ℤ)) (number : ℕ) → All (All (IsWithin limit)) tables → All (IsWithin limit) (slice_index_or tables number [])
table_within limit [] number h = λ k d inside. omega arith
table_within limit (table ∷ tables) zero h = h 0 [] (omega arith)
table_within limit (table ∷ tables) (suc number) h = table_within limit tables number (λ k d inside. h (suc k) d (omega arith))

-- ---- an application is that of a monomial

mutual
  few_applications : (term : Term) → applications term ≤ monomials term
  few_applications (Term' shape monos constant) = few_in_sum monos

  few_in_sum : {n : _} (row : Row_of-Mono n) → sum_applications row ≤ sum_monomials row
  few_in_sum end_of-Mono = omega arith
  few_in_sum (more_of-Mono coef (App fun arg) others) = omega (arith, few_applications arg, few_in_sum others)
  few_in_sum (more_of-Mono coef atom others) = omega (arith, few_in_sum others)

-- ---- sums of small products

pub times_within : {a b : ℕ} (x y : ℤ) → IsWithin a x → IsWithin b y → IsWithin (a * b) (x *ℤ y)
times_within x y p q = rw (unsigned_abs-mul x y) (mul-le _ _ _ _ p q)

module _ (env : Environment) (variables : List ℤ) (small : AreWithin env variables) where
  atom_within : (atom : Atom) → IsWithin (2 ^ 22) (atom_value env variables atom)
  atom_within (Var number) = listed_within (2 ^ 22) variables number small.values
  atom_within (Param number) = listed_within (2 ^ 22) env.params number small.params
  atom_within (App fun arg) = number_within (2 ^ 22) (table_at env fun) (value env variables arg) (table_within (2 ^ 22) env.tables fun small.tables)

  sum_within : {n : _} (row : Row_of-Mono n) → HaveSmallNumbers row → IsWithin (sum_monomials row * 2 ^ 42) (sum_value env variables row)
  sum_within end_of-Mono h = omega (arith, ints)
  sum_within (more_of-Mono coef atom others) h =
      let product = times_within coef (atom_value env variables atom) h.0 (atom_within atom) in
      let more = sum_within others h.2 in
      omega (arith, ints)

  pub value_within : (term : Term) → IsBounded term → IsWithin (2 ^ 49) (value env variables term)
  value_within (Term' shape monos constant) bounded =
      let sum = sum_within monos bounded.small.0 in
      let few = bounded.few in
      let last = bounded.small.1 in
      omega (arith, ints)

  fits : (z : ℤ) → IsWithin (2 ^ 49) z → FitsSigned w64 z
  fits z h = omega (arith, ints)

  -- ---- the places that are read

  abbrev Fits : List Entry → Type 0
  Fits = All HasSmallPlace

  no_entry : Fits []
  no_entry k d inside = omega arith

  mutual
    atom_places : (site : ℕ) (atom : Atom) → atom_monomials atom ≤ 64 → AtomHasSmallNumbers atom → Fits (atom_entries env variables site atom)
    atom_places site (Var number) few h = no_entry
    atom_places site (Param number) few h = no_entry
    atom_places site (App fun arg) few h = All-append HasSmallPlace _ _ (places (site + 1) arg few h)
        (All-cons HasSmallPlace _ [] (fits _ (value_within arg (record { few = few; small = h }))) no_entry)

    monos_places : {n : _} (site : ℕ) (row : Row_of-Mono n) → sum_monomials row ≤ 64 → HaveSmallNumbers row → Fits (sum_entries env variables site row)
    monos_places site end_of-Mono few h = no_entry
    monos_places site (more_of-Mono coef atom others) few h =
        All-append HasSmallPlace _ _ (atom_places site atom (omega arith) h.1) (monos_places (site + atom_applications atom) others (omega arith) h.2)

    places : (site : ℕ) (term : Term) → monomials term ≤ 64 → HasSmallNumbers term → Fits (entries env variables site term)
    places site (Term' shape monos constant) few h = monos_places site monos few h.0

  pub term_small : (term : Term) → IsBounded term → IsSmall env variables term
  term_small term bounded = record {
    value = fits _ (value_within term bounded);
    places = λ site. places site term bounded.few bounded.small;
    few = omega (arith, few_applications term, bounded.few);
  }
