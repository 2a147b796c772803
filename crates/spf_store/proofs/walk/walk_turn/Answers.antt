use Rattle.std.proofs.Common.{◌∷◌, []}
use Rattle.std.proofs.lemmas.Result.{err_from_is_err_and}
use Rattle.spf_term.proofs.WalkParts.{stop_behind, stop_in_front, stopped_walk}
use Rattle.spf_store.specs.Event.{Turn}
use Rattle.spf_store.proofs.OnTheWay.{may_second}
use Rattle.spf_store.proofs.walk.walk_turn.Goals as goal

pub walk_all-requires-clause-may : goal.walk_all-requires-clause-may
walk_all-requires-clause-may g c =
    may_second _ _ (g.met.V.Visitor.stays c.args.visitor.now) (Turn ∷ []) _ c.requires.may c.in_ok-turn.ensures

pub returns-in_err-turn : goal.returns-in_err-turn
returns-in_err-turn g c =
    stopped_walk c.turn.new.state (err_from_is_err_and c.from_residual.result c.from_residual.ensures.1) (stop_in_front _ _ (Turn ∷ []) _ _ _ c.in_err-turn.ensures)

pub returns-in_err-walk_all : goal.returns-in_err-walk_all
returns-in_err-walk_all g c =
    let exit = c.from_residual-in_err-walk_all in
    stopped_walk c.walk_all.new.state (err_from_is_err_and exit.result exit.ensures.1) (stop_behind _ _ (Turn ∷ []) _ _ _ _ c.in_ok-turn.ensures c.in_err-walk_all.ensures.walks)
