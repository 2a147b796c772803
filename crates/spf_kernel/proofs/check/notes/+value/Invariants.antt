use Rattle.spf_kernel.proofs.Common.{take, flat_map, fact_notes}
use Rattle.spf_kernel.specs.check.State.{Takes}
use Rattle.spf_kernel.proofs.check.notes.+value.Given as goal
use Rattle.spf_kernel.proofs.NoteEquations.{summand_notes}

abbrev pub invariant-note_summand-loop-fact : goal.invariant-note_summand-loop-fact
invariant-note_summand-loop-fact l = Takes l.fn.check (flat_map (fact_notes l.scope) (take l.fact-index l.fact-items)) l.check

abbrev pub invariant-note_value-loop-summand : goal.invariant-note_value-loop-summand
invariant-note_value-loop-summand l = Takes l.fn.check (flat_map (summand_notes l.scope) (take l.summand-index l.summand-items)) l.check
