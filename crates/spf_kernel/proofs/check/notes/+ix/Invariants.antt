use Rattle.spf_kernel.proofs.Common.{take, flat_map}
use Rattle.spf_kernel.specs.check.State.{Takes}
use Rattle.spf_kernel.proofs.check.notes.+ix.Given as goal
use Rattle.spf_kernel.proofs.NoteEquations.{step_notes}

abbrev pub invariant-note_ix-loop-step : goal.invariant-note_ix-loop-step
invariant-note_ix-loop-step l = Takes l.fn.check (flat_map (step_notes l.spot l.scope) (take l.step-index l.step-items)) l.check
