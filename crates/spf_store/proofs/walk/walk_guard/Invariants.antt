use Rattle.std.proofs.Common.{drop}
use Rattle.spf_store.proofs.Branches.{AmongConds}
use Rattle.spf_store.proofs.walk.walk_guard.Given as goal

abbrev pub invariant-loop-cond : goal.invariant-loop-cond
invariant-loop-cond g l =
    AmongConds (g.V.Visitor.accepts l.visitor) (g.V.Visitor.may l.visitor) (g.V.Visitor.env l.visitor) l.variables l.fn.state l.site l.guard.conds l.guard.body
    l.state l.next (drop l.cond-index l.guard.conds)
