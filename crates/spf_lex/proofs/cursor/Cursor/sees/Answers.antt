use Rattle.std.proofs.Common.{ap, sym, ◌∙◌}
use Rattle.spf_lex.specs.Cursor.{next_in}
use Rattle.spf_lex.proofs.Taking.{sees_next, is_next}
use Rattle.spf_lex.proofs.cursor.Cursor.sees.Goals as goal

pub returns-in-Some : goal.returns-in-Some
returns-in-Some g c =
    let same = g.K.TokenKind.same in
    c.is.ensures ∙ ap (is_next same c.args.kind) (sym c.in-Some.is ∙ c.self.invariant.known ∙ ap next_in c.self.view_is) ∙ sym (sees_next same c.args.kind c.args.self.now)

pub returns-in-None : goal.returns-in-None
returns-in-None g c =
    let same = g.K.TokenKind.same in
    ap (is_next same c.args.kind) (sym c.in-None.is ∙ c.self.invariant.known ∙ ap next_in c.self.view_is) ∙ sym (sees_next same c.args.kind c.args.self.now)
