use Rattle.std.proofs.Common.{sym, subst}
use Rattle.spf_store.specs.Small.{AreSmallTurns}
use Rattle.spf_store.proofs.walk.ItemPiece.walk.Goals as goal

pub walk_inner-requires-clause-small : goal.walk_inner-requires-clause-small
walk_inner-requires-clause-small g c =
    let small = rw c.in-Inner.is at c.requires.small in
    subst (AreSmallTurns (g.V.Visitor.env c.args.visitor.now) c.args.variables.now) (sym c.as_slice.ensures) small.2
