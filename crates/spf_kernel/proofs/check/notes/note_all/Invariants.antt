use Rattle.spf_kernel.proofs.Common.{take, flat_map}
use Rattle.spf_kernel.specs.check.State.{Takes}
use Rattle.spf_kernel.proofs.check.notes.note_all.Given as goal

abbrev pub invariant-loop-part : goal.invariant-loop-part
invariant-loop-part g l = Takes l.fn.check (flat_map (g.T.Noted.noted l.scope) (take l.part-index l.parts)) l.check
