use Rattle.spf_io.proofs.StreamLemmas.{taken_on}
use Rattle.spf_io.proofs.whole_input.read_all.Goals as goal

pub returns-then-is_err-clause-front : goal.returns-then-is_err-clause-front
returns-then-is_err-clause-front g c = (_, taken_on _ _ _ _ _ c.loop-piece.invariant.taken c.in-Ok.ensures.taken)
