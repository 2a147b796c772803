-- What spf_term's laws tell of the equality of a variable and a term.
use Rattle.std.specs.Prelude.{◌≡◌, ℕ, ◌+◌, ◌<◌, ◌≤◌, ◌^◌, Some, None, false, nat_eq}
use Rattle.std.specs.Cmp.{IsTotalOrder}
use Rattle.std.specs.List.{find}
use Rattle.spf_term.specs.Bounded.{monomials}
use Rattle.spf_term.specs.Equation.{IsApart, difference, equation}
use Rattle.spf_term.specs.Measure.{size}
use Rattle.spf_term.specs.Normal.{normal}
use Rattle.spf_term.specs.NumberRule.{is_outside, numbers}
use Rattle.spf_term.specs.Order.{term_cmp}
use Rattle.spf_term.specs.Solution.{mentions, oriented, solution}
use Rattle.spf_term.specs.Substitution.{substituted}
use Rattle.spf_term.specs.declared.term.Term.{Term}

pub record GraphLaws : Type 0 where
  pub solved : (low high var : ℕ) (term : Term) → low ≤ var → var < high → IsApart low high (normal term) → solution low high (equation var term) ≡ Some (record { var = var; by = normal term })
  pub unsolved : (low high var : ℕ) (term : Term) → var < low → IsApart low high (normal term) → solution low high (equation var term) ≡ None
  pub kept : (var other : ℕ) (by term : Term) → nat_eq other var ≡ false → mentions other (normal (substituted var by term)) ≡ false → oriented (normal (substituted var by (equation other term))) ≡ equation other (substituted var by term)
  pub difference_count : (var : ℕ) (term : Term) → monomials (difference var term) ≤ 1 + monomials term
  pub difference_size : (var : ℕ) (term : Term) → size (difference var term) ≤ 1 + size term
  pub equation_count : (var : ℕ) (term : Term) → monomials (equation var term) ≤ 1 + monomials term
  pub equation_size : (var : ℕ) (term : Term) → size (equation var term) ≤ 1 + size term
  pub none : (term : Term) → size term ≤ 2 ^ 62 → find is_outside (numbers term) ≡ None
  pub total : IsTotalOrder term_cmp
