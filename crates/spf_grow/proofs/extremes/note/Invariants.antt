use Rattle.spf_grow.proofs.Noting.{IsNotedTo}
use Rattle.spf_grow.proofs.extremes.note.Given as goal

abbrev pub invariant-loop-touch : goal.invariant-loop-touch
invariant-loop-touch l = IsNotedTo l.initial.bounds l.touches l.touch-index l.number l.bounds
