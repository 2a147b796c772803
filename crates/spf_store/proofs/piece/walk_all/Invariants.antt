use Rattle.std.proofs.Common.{drop}
use Rattle.spf_store.proofs.Pieces.{AmongPieces}
use Rattle.spf_store.proofs.piece.walk_all.Given as goal

abbrev pub invariant-loop-piece : goal.invariant-loop-piece
invariant-loop-piece g l =
    AmongPieces (g.V.Visitor.accepts l.visitor) (g.V.Visitor.may l.visitor) g.P.Piece.sites (g.P.Piece.trace (g.V.Visitor.env l.visitor) l.variables)
    l.fn.state l.site l.pieces l.state l.next (drop l.piece-index l.pieces)
