use Rattle.std.proofs.Common.{List, Ok, ap, ◌∙◌, arith}
use Rattle.std.proofs.lemmas.List.{drop_all}
use Rattle.spf_lex.specs.Language.{Lexed, tokens_of}
use Rattle.spf_lex.specs.Tokens.{texts}
use Rattle.spf_lex.proofs.Numbered.{numbered_length}
use Rattle.spf_lex.proofs.parts.whole.Goals as goal

pub returns-clause-found : goal.returns-clause-found
returns-clause-found g c =
    let language = g.K.TokenKind.language in
    let all = texts c.args.tokens.now in
    c.in_ok-part.ensures.found.1
    ∙ ap (λ (rest : List (Lexed g.row.K.Denot)). Ok (c.in_ok-part.part, rest)) (drop_all c.in_ok-part.next (tokens_of language all) (omega (arith, c.len.ensures.count, c.if-next-len.false, numbered_length language 0 all)))
