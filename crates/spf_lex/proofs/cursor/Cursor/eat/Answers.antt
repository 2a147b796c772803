use Rattle.std.proofs.Common.{sym, ◌∙◌}
use Rattle.spf_lex.proofs.Taking.{after_seen, after_unseen}
use Rattle.spf_lex.proofs.cursor.Cursor.eat.Goals as goal

pub returns-then-sees-clause-rest : goal.returns-then-sees-clause-rest
returns-then-sees-clause-rest g c = c.advance.ensures ∙ sym (after_seen g.K.TokenKind.same c.args.kind c.args.self.now (sym c.sees-sees.ensures ∙ c.if-sees.true))

pub returns-else-sees-clause-rest : goal.returns-else-sees-clause-rest
returns-else-sees-clause-rest g c = sym (after_unseen g.K.TokenKind.same c.args.kind c.args.self.now (sym c.sees-sees.ensures ∙ c.if-sees.false))
