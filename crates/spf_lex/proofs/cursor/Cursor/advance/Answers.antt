use Rattle.std.proofs.Common.{List, drop, sym, ap, ◌∙◌, refl, arith}
use Rattle.std.proofs.lemmas.List.{drop-drop, drop_all}
use Rattle.spf_lex.specs.Language.{Lexed, tokens_of}
use Rattle.spf_lex.specs.Tokens.{texts}
use Rattle.spf_lex.proofs.Numbered.{numbered_length}
use Rattle.spf_lex.proofs.cursor.Cursor.advance.Goals as goal

pub returns-then-self-len : goal.returns-then-self-len
returns-then-self-len g c =
    sym (drop-drop 1 c.self.inside.at (tokens_of g.K.TokenKind.language (texts c.self.inside.tokens.now))) ∙ ap (λ (rest : List (Lexed g.row.K.Denot)). drop 1 rest) c.self.view_is

pub returns-else-self-len : goal.returns-else-self-len
returns-else-self-len g c =
    let language = g.K.TokenKind.language in
    let all = texts c.self.inside.tokens.now in
    rw (← c.self.view_is, drop_all c.self.inside.at (tokens_of language all) (omega (arith, c.len.ensures.count, numbered_length language 0 all))) refl
