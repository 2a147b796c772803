use Rattle.std.proofs.Common.{◌≡◌, ◌++◌, map, take}
use Rattle.spf_touch.specs.declared.touch.Touch.{Touch}
use Rattle.spf_plan.proofs.view.push_elements.Given as goal

abbrev pub invariant-loop-touch : goal.invariant-loop-touch
invariant-loop-touch l = l.elements ≡ l.fn.elements ++ map (λ (touch : Touch). touch.element) (take l.touch-index l.touches)
