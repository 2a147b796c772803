use Rattle.std.proofs.lemmas.Bool.{iff_false}
use Rattle.spf_core.proofs.MarkSteps.{nobody}
use Rattle.spf_core.proofs.past.Past.tile_of.Goals as goal

pub returns-then-not-has_worker-clause-holds : goal.returns-then-not-has_worker-clause-holds
returns-then-not-has_worker-clause-holds c =
    nobody _ _ _ c.args.worker c.has_worker.ensures.history (iff_false c.has_worker.ensures.worker c.if-not-has_worker.true)
