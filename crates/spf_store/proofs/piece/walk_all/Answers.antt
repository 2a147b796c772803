use Rattle.std.proofs.lemmas.Result.{err_from_is_err_and}
use Rattle.spf_term.proofs.WalkParts.{stopped_walk}
use Rattle.spf_store.proofs.Pieces.{at_first, gone_past, stopped_at}
use Rattle.spf_store.proofs.piece.walk_all.Goals as goal

pub loop-piece-init : goal.loop-piece-init
loop-piece-init g c = at_first _ _ _ _ _ _ _ c.requires.may

pub loop-piece-preserved : goal.loop-piece-preserved
loop-piece-preserved g c =
    gone_past _ _ _ _ _ _ _ c.loop-piece.piece-index c.piece-item.result c.loop-piece-test.true c.piece-item.is c.loop-piece.invariant
    (g.met.V.Visitor.stays c.args.visitor.now) c.in_ok-next.ensures.walks c.in_ok-next.ensures.next

pub returns-in_err-next-clause-walks : goal.returns-in_err-next-clause-walks
returns-in_err-next-clause-walks g c =
    stopped_walk c.walk.new.state (err_from_is_err_and c.from_residual.result c.from_residual.ensures.1)
    (stopped_at _ _ _ _ _ _ _ c.loop-piece.piece-index c.piece-item.result c.loop-piece-test.true c.piece-item.is c.loop-piece.invariant c.in_err-next.ensures.walks)
