use Rattle.std.proofs.Common.{ℕ, ◌≡◌, ◌<◌, ◌≤◌, None}
use Rattle.spf_script.specs.Rules.{least_rule}
use Rattle.spf_script.proofs.resolving.test_rules.Given as goal

-- no step so far breaks a rule, so that it isn't a 33rd one
pub record IsWell (Broken : ℕ → Type 0) (place : ℕ) : Type 0 where
  pub kept : (other : ℕ) → other < place → Broken other
  pub few : place ≤ 32

abbrev pub invariant-loop-place : goal.invariant-loop-place
invariant-loop-place l = IsWell (λ other. least_rule l.shape l.plugs l.steps other ≡ None) l.place
