use Rattle.std.proofs.Common.{◌≡◌, ◌++◌, take}
use Rattle.spf_top.specs.PlanText.{spaced}
use Rattle.spf_top.proofs.plan_text.push_places.Given as goal

abbrev pub invariant-loop-place : goal.invariant-loop-place
invariant-loop-place l = l.text.items ≡ l.fn.text.items ++ spaced (take l.place l.pack)
