use Rattle.spf_kernel.proofs.Common.{arith, fold, is_some, pos, take, ◌+ℤ◌, common_steps, RawStep, alone_of}
use Rattle.spf_kernel.proofs.resolve.terms.constant.Goals as goal
use Rattle.spf_kernel.proofs.SignedNumbers.{wrap_sum, wrap_zero}

pub loop-step-init : goal.loop-step-init
loop-step-init c = wrap_zero

pub loop-step-preserved : goal.loop-step-preserved
loop-step-preserved c =
    let before = fold (λ total (step : RawStep). total +ℤ alone_of (is_some step.minus) step.mono) (pos 0) (take c.loop-step.step-index c.as_slice-step-items.result.now) in
    let e = wrap_sum before (alone_of (is_some c.step-item.result.minus) c.step-item.result.mono) in
    grind (arith, common_steps)
