use Rattle.std.proofs.Common.{ap, sym, ◌∙◌}
use Rattle.spf_lex.specs.Cursor.{next_in}
use Rattle.spf_lex.proofs.Taking.{is_next_any, sees_any_next}
use Rattle.spf_lex.proofs.cursor.Cursor.sees_any.Goals as goal

pub returns-in-Some : goal.returns-in-Some
returns-in-Some g c =
    let same = g.K.TokenKind.same in
    c.is_any.ensures ∙ ap (is_next_any same c.args.kinds.now) (sym c.in-Some.is ∙ c.self.invariant.known ∙ ap next_in c.self.view_is) ∙ sees_any_next same c.args.kinds.now c.args.self.now

pub returns-in-None : goal.returns-in-None
returns-in-None g c =
    let same = g.K.TokenKind.same in
    ap (is_next_any same c.args.kinds.now) (sym c.in-None.is ∙ c.self.invariant.known ∙ ap next_in c.self.view_is) ∙ sees_any_next same c.args.kinds.now c.args.self.now
