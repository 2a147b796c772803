use Rattle.spf_kernel.proofs.Common.{◌≡◌, take, flat_map, texts}
use Rattle.spf_kernel.proofs.resolve.terms.+resolve_ix.Given as goal
use Rattle.spf_kernel.proofs.TermEquations.{step_monos}

abbrev pub invariant-resolve_ix-loop-step : goal.invariant-resolve_ix-loop-step
invariant-resolve_ix-loop-step l = l.monos ≡ flat_map (step_monos (texts l.source.tokens.now) l.source.names.now l.scope) (take l.step-index l.step-items)
