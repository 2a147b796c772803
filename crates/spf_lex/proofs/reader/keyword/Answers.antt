use Rattle.std.proofs.Common.{sym, ◌∙◌}
use Rattle.spf_lex.proofs.Tables.{keyword_here, keyword_later}
use Rattle.spf_lex.proofs.reader.keyword.Goals as goal

pub loop-kind-preserved : goal.loop-kind-preserved
loop-kind-preserved g c =
    rw c.eat.ensures.rest
    (c.loop-kind.invariant
    ∙ keyword_later g.K.TokenKind.same c.args.table.now c.loop-kind.tokens c.loop-kind.kind-index c.loop-kind-item.result c.loop-kind-test.true c.loop-kind-item.is (sym c.eat.ensures.took ∙ c.if-eat.false))

pub returns-then-eat : goal.returns-then-eat
returns-then-eat g c =
    rw c.eat.ensures.rest
    (c.loop-kind.invariant
    ∙ keyword_here g.K.TokenKind.same c.args.table.now c.loop-kind.tokens c.loop-kind.kind-index c.loop-kind-item.result c.loop-kind-test.true c.loop-kind-item.is (sym c.eat.ensures.took ∙ c.if-eat.true))
