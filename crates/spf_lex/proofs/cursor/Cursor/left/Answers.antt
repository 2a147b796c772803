use Rattle.std.proofs.Common.{arith, length-drop}
use Rattle.spf_lex.specs.Language.{tokens_of}
use Rattle.spf_lex.specs.Tokens.{texts}
use Rattle.spf_lex.proofs.Numbered.{numbered_length}
use Rattle.spf_lex.proofs.cursor.Cursor.left.Goals as goal

pub returns : goal.returns
returns g c =
    let language = g.K.TokenKind.language in
    let all = texts c.self.inside.tokens.now in
    rw (← c.self.view_is) (omega (arith, c.len.ensures.count, numbered_length language 0 all, length-drop c.self.inside.at (tokens_of language all)))
