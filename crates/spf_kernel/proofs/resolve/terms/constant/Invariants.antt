use Rattle.spf_kernel.proofs.Common.{◌≡◌, take, fold, is_some, pos, ◌+ℤ◌, RawStep, alone_of, wrap}
use Rattle.spf_kernel.proofs.resolve.terms.constant.Given as goal

abbrev pub invariant-loop-step : goal.invariant-loop-step
invariant-loop-step l = l.constant ≡ wrap (fold (λ total (step : RawStep). total +ℤ alone_of (is_some step.minus) step.mono) (pos 0) (take l.step-index l.step-items))
