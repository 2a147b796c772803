use Rattle.std.proofs.Common.{◌≡◌, true, refl, ap, sym, ◌∙◌}
use Rattle.spf_lex.specs.Language.{tokens_of}
use Rattle.spf_lex.specs.Reader.{sees}
use Rattle.spf_lex.specs.Tokens.{texts}
use Rattle.std.specs.Prelude.{drop}
use Rattle.spf_lex.proofs.NamedTokens.{name_text}
use Rattle.spf_lex.proofs.Taking.{none_taken, seen_inside, seen_kind, text_taken}
use Rattle.spf_lex.proofs.cursor.Cursor.name.Goals as goal

pub returns-then-not-sees-clause-name : goal.returns-then-not-sees-clause-name
returns-then-not-sees-clause-name g c =
    let same = g.K.TokenKind.same in
    rw (none_taken same g.K.TokenKind.language.name c.args.self.now (ap (λ kind. sees same kind c.args.self.now) (sym c.name.ensures) ∙ sym c.sees.ensures ∙ c.if-not-sees.true)) refl

pub text-requires : goal.text-requires
text-requires g c =
    let same = g.K.TokenKind.same in
    let language = g.K.TokenKind.language in
    seen_inside same c.name.result language (texts c.self.inside.tokens.now) c.self.inside.at (ap (sees same c.name.result) c.self.view_is ∙ sym c.sees.ensures ∙ c.if-not-sees.false)

pub copy-requires : goal.copy-requires
copy-requires g c =
    let same = g.K.TokenKind.same in
    let language = g.K.TokenKind.language in
    let all = texts c.self.inside.tokens.now in
    let seen : sees same language.name (drop c.self.inside.at (tokens_of language all)) ≡ true =
    ap (λ kind. sees same kind (drop c.self.inside.at (tokens_of language all))) (sym c.name.ensures) ∙ ap (sees same c.name.result) c.self.view_is ∙ sym c.sees.ensures ∙ c.if-not-sees.false
    in
    name_text same g.met.K.TokenKind.exact language g.met.K.TokenKind.apart c.self.inside.at c.text.result.now c.text.ensures.token
    (seen_kind same language.name language all c.self.inside.at seen c.text.result.now c.text.ensures.text)

pub returns-clause-name : goal.returns-clause-name
returns-clause-name g c =
    let same = g.K.TokenKind.same in
    let language = g.K.TokenKind.language in
    let all = texts c.self.inside.tokens.now in
    let seen : sees same language.name (drop c.self.inside.at (tokens_of language all)) ≡ true =
    ap (λ kind. sees same kind (drop c.self.inside.at (tokens_of language all))) (sym c.name.ensures) ∙ ap (sees same c.name.result) c.self.view_is ∙ sym c.sees.ensures ∙ c.if-not-sees.false
    in
    rw (c.advance.ensures, ← c.self.view_is) (text_taken same language.name language all c.self.inside.at seen c.text.result.now c.text.ensures.text c.in_ok-name.name c.in_ok-name.ensures)
