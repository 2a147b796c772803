use Rattle.spf_kernel.proofs.Common.{◌≡◌, ◌-◌, length, take, flat_map, excess_notes}
use Rattle.spf_kernel.specs.check.State.{Takes}
use Rattle.spf_kernel.proofs.check.notes.+excess.Given as goal
use Rattle.spf_kernel.proofs.NoteEquations.{step_monomials}

abbrev pub invariant-excess_in_ix-loop-step : goal.invariant-excess_in_ix-loop-step
invariant-excess_in_ix-loop-step l = record {
  notes : Takes l.fn.check (excess_notes l.room (flat_map step_monomials (take l.step-index l.step-items))) l.check;
  left : l.left ≡ l.room - length (flat_map step_monomials (take l.step-index l.step-items));
}
