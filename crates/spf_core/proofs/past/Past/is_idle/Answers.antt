use Rattle.std.proofs.Common.{◌∙◌, ap, not, sym}
use Rattle.std.proofs.lemmas.Bool.{not-false}
use Rattle.spf_core.proofs.MarkSteps.{empty_seat, idle_seat}
use Rattle.spf_core.proofs.past.Past.is_idle.Goals as goal

pub returns-then-has_worker : goal.returns-then-has_worker
returns-then-has_worker c =
    let worker = c.has_worker.ensures.worker.0 c.if-has_worker.true in (
      λ none. (worker.0, worker.1, empty_seat c.tile_of.result _ c.tile_of.ensures.holds (c.is_none.ensures ∙ ap not none)),
      λ idle. not-false _ (sym c.is_none.ensures ∙ idle_seat c.tile_of.result _ c.tile_of.ensures.holds idle.2),
    )
