-- How many monomials terms have, and how large their numbers are together.
use Rattle.std.proofs.Common.{◌≡◌, ℕ, ◌+◌, ◌*◌, ◌≤◌, ℤ, pos, negsuc, ◌+ℤ◌, ◌*ℤ◌, List, [], ◌∷◌, Bool, true, false, if◌then◌else◌, max, unsigned_abs, refl, arith}
use Rattle.std.proofs.lemmas.Int.{ints, unsigned_abs-mul}
use Rattle.std.proofs.lemmas.Nat.{mul-le}
use Rattle.spf_term.specs.Bounded.{atom_monomials, monomials, sum_monomials}
use Rattle.spf_term.specs.Equation.{difference, equation}
use Rattle.spf_term.specs.Measure.{Measure, atom_measured, by_count, by_factor, by_size, measured, size, sum_measured}
use Rattle.spf_term.specs.Normal.{normal}
use Rattle.spf_term.specs.Solution.{leads_negative, times}
use Rattle.spf_term.specs.Substitution.{scaled, substituted}
use Rattle.spf_term.specs.declared.term.Atom.{Atom, Var, Param, App}
use Rattle.spf_term.specs.declared.term.Mono.{Mono}
use Rattle.spf_term.specs.declared.term.Term.{Term, Term', out-Term, Row_of-Mono, end_of-Mono, more_of-Mono}
use Rattle.spf_term.proofs.Measured.{IsFactor, list_measured, measured_is, measured_sum, normal_less, substituted_less}

-- ---- the three measures

mutual
  counted_atom : (atom : Atom) → atom_measured by_count atom ≡ atom_monomials atom
  counted_atom (Var number) = refl
  counted_atom (Param number) = refl
  counted_atom (App fun arg) = counted arg

  counted_row : {n : _} (row : Row_of-Mono n) → sum_measured by_count row ≡ sum_monomials row
  counted_row end_of-Mono = refl
  counted_row (more_of-Mono coef atom others) = let here = counted_atom atom in let later = counted_row others in omega (arith, here, later)

  pub counted : (term : Term) → measured by_count term ≡ monomials term
  counted (Term' shape monos constant) = let all = counted_row monos in omega (arith, all)

pub count_sums : (a b : ℤ) → by_count.coef (a +ℤ b) ≤ by_count.coef a + by_count.coef b
count_sums a b = omega arith

pub size_sums : (a b : ℤ) → by_size.coef (a +ℤ b) ≤ by_size.coef a + by_size.coef b
size_sums a b = omega (arith, ints)

pub factor_sums : (a b : ℤ) → by_factor.coef (a +ℤ b) ≤ by_factor.coef a + by_factor.coef b
factor_sums a b = let sum = size_sums a b in omega (arith, sum)

count_factor : IsFactor by_count (λ a. 1)
count_factor = record { one = λ a. omega arith; coef = λ a b. omega arith; constant = λ a b. omega arith; sums = λ a b. omega arith; zero = refl }

abbrev largest : ℤ → ℕ
largest a = max 1 (unsigned_abs a)

products : (a b : ℤ) → unsigned_abs (a *ℤ b) ≤ largest a * unsigned_abs b
products a b = let is = unsigned_abs-mul a b in let less = mul-le (unsigned_abs a) (unsigned_abs b) (largest a) (unsigned_abs b) (omega arith) (omega arith) in omega (arith, is, less)

size_factor : IsFactor by_size largest
size_factor = record { one = λ a. omega arith; coef = products; constant = products; sums = size_sums; zero = refl }

factor_factor : IsFactor by_factor largest
factor_factor = record {
  one = λ a. omega arith;
  coef = λ a b.
      let is = unsigned_abs-mul a b in
      let ones = mul-le 1 1 (largest a) (largest b) (omega arith) (omega arith) in
      let less = mul-le (unsigned_abs a) (unsigned_abs b) (largest a) (largest b) (omega arith) (omega arith) in
      omega (arith, is, ones, less);
  constant = λ a b. omega arith;
  sums = λ a b. omega arith;
  zero = refl;
}

pub substituted_count : (var : ℕ) (by term : Term) → monomials (substituted var by term) ≤ monomials term + monomials term * monomials by
substituted_count var by term =
    let less = substituted_less by_count (λ a. 1) count_factor var by term in
    let all = counted (substituted var by term) in
    let product : measured by_count term * measured by_count by ≡ monomials term * monomials by = λ i. counted term i * counted by i in
    let one = counted term in
    omega (arith, less, all, product, one)

pub substituted_size : (var : ℕ) (by term : Term) → size (substituted var by term) ≤ size term + measured by_factor term * size by
substituted_size var by term = substituted_less by_size largest size_factor var by term

pub substituted_factor : (var : ℕ) (by term : Term) → measured by_factor (substituted var by term) ≤ measured by_factor term + measured by_factor term * measured by_factor by
substituted_factor var by term = substituted_less by_factor largest factor_factor var by term

pub normal_count : (term : Term) → monomials (normal term) ≤ monomials term
normal_count term = let less = normal_less by_count count_sums term in let one = counted (normal term) in let two = counted term in omega (arith, less, one, two)

-- ---- equalities

module _ (by : Measure) (coefs : (a : ℤ) → by.coef (negsuc 0 *ℤ a) ≡ by.coef a) (constants : (a : ℤ) → by.constant (negsuc 0 *ℤ a) ≡ by.constant a) (sums : (a b : ℤ) → by.coef (a +ℤ b) ≤ by.coef a + by.coef b) where
  negated : (monos : List Mono) → list_measured by (scaled (negsuc 0) monos) ≡ list_measured by monos
  negated [] = refl
  negated (mono ∷ monos) = let here = coefs mono.coef in let later = negated monos in omega (arith, here, later)

  negated_term : (term : Term) → measured by (times (negsuc 0) term) ≡ measured by term
  negated_term term =
      let made = measured_sum by (scaled (negsuc 0) (out-Term term).monos) (negsuc 0 *ℤ (out-Term term).constant) in
      let all = negated (out-Term term).monos in
      let last = constants (out-Term term).constant in
      let is = measured_is by term in
      omega (arith, made, all, last, is)

  oriented_by : (negative : Bool) (term : Term) → measured by (if negative then times (negsuc 0) term else term) ≡ measured by term
  oriented_by true term = negated_term term
  oriented_by false term = refl

  pub difference_measured : (var : ℕ) (term : Term) → measured by (difference var term) ≡ by.coef (pos 1) + measured by term
  difference_measured var term =
      let made = measured_sum by (record { coef = pos 1; atom = Var var } ∷ scaled (negsuc 0) (out-Term term).monos) (negsuc 0 *ℤ (out-Term term).constant) in
      let all = negated (out-Term term).monos in
      let last = constants (out-Term term).constant in
      let is = measured_is by term in
      omega (arith, made, all, last, is)

  pub equation_measured : (var : ℕ) (term : Term) → measured by (equation var term) ≤ by.coef (pos 1) + measured by term
  equation_measured var term =
      let turned = oriented_by (leads_negative (out-Term (normal (difference var term))).monos) (normal (difference var term)) in
      let less = normal_less by sums (difference var term) in
      let is = difference_measured var term in
      omega (arith, turned, less, is)

opposite_size : (a : ℤ) → unsigned_abs (negsuc 0 *ℤ a) ≡ unsigned_abs a
opposite_size a = let is = unsigned_abs-mul (negsuc 0) a in omega (arith, is)

pub difference_count : (var : ℕ) (term : Term) → monomials (difference var term) ≤ 1 + monomials term
difference_count var term =
    let is = difference_measured by_count (λ a. refl) (λ a. refl) count_sums var term in
    let one = counted (difference var term) in
    let two = counted term in
    omega (arith, is, one, two)

pub difference_size : (var : ℕ) (term : Term) → size (difference var term) ≤ 1 + size term
difference_size var term = let is = difference_measured by_size opposite_size opposite_size size_sums var term in omega (arith, is)

pub equation_count : (var : ℕ) (term : Term) → monomials (equation var term) ≤ 1 + monomials term
equation_count var term =
    let less = equation_measured by_count (λ a. refl) (λ a. refl) count_sums var term in
    let one = counted (equation var term) in
    let two = counted term in
    omega (arith, less, one, two)

pub equation_size : (var : ℕ) (term : Term) → size (equation var term) ≤ 1 + size term
equation_size var term = equation_measured by_size opposite_size opposite_size size_sums var term
