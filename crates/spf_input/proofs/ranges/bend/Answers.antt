use Rattle.std.proofs.Common.{◌≡◌, ◌∙◌, ◌+◌, ◌-◌, ◌≤◌, ℕ, ℤ, zero, suc, List, [], ◌∷◌, None, length, drop, refl, sym, arith}
use Rattle.spf_kernel.specs.declared.tree.Trend.{Trend}
use Rattle.spf_input.specs.Rules.{bend_from}
use Rattle.spf_input.proofs.ranges.bend.Goals as goal

-- behind the last number but one nothing bends
ended : (trend : Trend) (place n : ℕ) (numbers : List ℤ) → length numbers ≤ n + 1 → bend_from trend place (drop n numbers) ≡ None
ended trend place zero [] short = refl
ended trend place zero (number ∷ []) short = refl
ended trend place zero (before ∷ number ∷ numbers) short = absurd (omega arith)
ended trend place (suc n) [] short = refl
ended trend place (suc n) (number ∷ numbers) short = ended trend place n numbers (omega arith)

pub returns : goal.returns
returns c = sym (ended c.args.trend (c.loop-place.place - 1) (c.loop-place.place - 1) c.args.numbers.now (omega arith)) ∙ c.loop-place.invariant
