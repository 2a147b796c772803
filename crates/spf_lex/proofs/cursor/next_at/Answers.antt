use Rattle.std.proofs.Common.{arith, refl}
use Rattle.std.proofs.lemmas.List.{drop_all}
use Rattle.spf_lex.specs.Language.{tokens_of}
use Rattle.spf_lex.specs.Tokens.{texts}
use Rattle.spf_lex.proofs.Numbered.{next_is, numbered_length}
use Rattle.spf_lex.proofs.cursor.next_at.Goals as goal

pub returns-then-at-len : goal.returns-then-at-len
returns-then-at-len g c =
    let language = g.K.TokenKind.language in
    let all = texts c.args.tokens.now in
    rw (drop_all c.args.at (tokens_of language all) (omega (arith, numbered_length language 0 all))) refl

pub returns : goal.returns
returns g c =
    rw (c.kind_of.ensures, c.value_of.ensures) (next_is g.K.TokenKind.language (texts c.args.tokens.now) c.args.at c.text.result.now c.lexeme-lexeme.result c.text.ensures.text c.lexeme-lexeme.ensures)
