use Rattle.std.proofs.Common.{ap, sym, ◌∙◌}
use Rattle.spf_lex.specs.Cursor.{next_in}
use Rattle.spf_lex.specs.Tokens.{texts}
use Rattle.spf_lex.proofs.Taking.{is_next, none_expected, one_expected}
use Rattle.spf_lex.proofs.cursor.Cursor.expect.Goals as goal

pub returns-in-Some : goal.returns-in-Some
returns-in-Some g c =
    rw (c.advance.ensures, ← c.self.view_is)
    (one_expected g.K.TokenKind.same c.args.kind g.K.TokenKind.language (texts c.self.inside.tokens.now) c.self.inside.at c.in-Some.next (sym c.in-Some.is ∙ c.self.invariant.known) (sym c.is.ensures ∙ c.if-is.true))

pub returns-in_default : goal.returns-in_default
returns-in_default g c =
    let same = g.K.TokenKind.same in
    none_expected same c.args.kind c.args.self.now
    (ap (is_next same c.args.kind) (sym (sym c.in-Some.is ∙ c.self.invariant.known ∙ ap next_in c.self.view_is)) ∙ sym c.is.ensures ∙ c.if-is.false)

pub returns-in_default-2 : goal.returns-in_default-2
returns-in_default-2 g c =
    let same = g.K.TokenKind.same in
    none_expected same c.args.kind c.args.self.now (ap (is_next same c.args.kind) (sym (sym c.in_default.is ∙ c.self.invariant.known ∙ ap next_in c.self.view_is)))
