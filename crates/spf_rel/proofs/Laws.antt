-- What spf_term's laws tell of terms.
use Rattle.std.proofs.Common.{◌≡◌, ◌↔◌, ℕ, ℤ, pos, List, Some}
use Rattle.std.specs.declared.cmp.Ordering.TheVariants.{Equal}
use Rattle.spf_term.specs.Environment.{Environment}
use Rattle.spf_term.specs.Normal.{normal}
use Rattle.spf_term.specs.Order.{term_cmp}
use Rattle.spf_term.specs.Solution.{Solves, oriented, solution}
use Rattle.spf_term.specs.Substitution.{IsReplaced, substituted}
use Rattle.spf_term.specs.Value.{value}
use Rattle.spf_term.specs.declared.solutions.Solution.{Solution}
use Rattle.spf_term.specs.declared.term.Term.{Term}

pub record Laws : Type 0 where
  pub normal : (env : Environment) (variables : List ℤ) (term : Term) → value env variables (normal term) ≡ value env variables term
  pub oriented : (env : Environment) (variables : List ℤ) (term : Term) → (value env variables (oriented term) ≡ pos 0) ↔ (value env variables term ≡ pos 0)
  pub substituted : (env : Environment) (before after : List ℤ) (var : ℕ) (by term : Term) → IsReplaced var (value env before by) before after → value env before (substituted var by term) ≡ value env after term
  pub solves : (low high : ℕ) (term : Term) (found : Solution) → solution low high term ≡ Some found → Solves low high term found
  pub exact : (a b : Term) → term_cmp a b ≡ Equal → a ≡ b
