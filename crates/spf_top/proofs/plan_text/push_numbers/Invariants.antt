use Rattle.std.proofs.Common.{◌≡◌, ◌++◌, take}
use Rattle.spf_top.specs.PlanText.{spaced}
use Rattle.spf_top.proofs.plan_text.push_numbers.Given as goal

abbrev pub invariant-loop-number : goal.invariant-loop-number
invariant-loop-number l = l.text.items ≡ l.fn.text.items ++ spaced (take l.number-index l.numbers)
