use Rattle.spf_kernel.proofs.Common.{take, map, param_note}
use Rattle.spf_kernel.specs.check.State.{Takes}
use Rattle.spf_kernel.proofs.check.notes.note_params.Given as goal

abbrev pub invariant-loop-name : goal.invariant-loop-name
invariant-loop-name l = Takes l.fn.check (map param_note (take l.name-index l.names)) l.check
