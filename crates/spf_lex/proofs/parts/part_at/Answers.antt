use Rattle.std.proofs.Common.{ap, sym, ◌∙◌, arith}
use Rattle.spf_lex.specs.Suffix.{rest_in}
use Rattle.spf_lex.proofs.Standing.{left_fits, found, failed}
use Rattle.spf_lex.proofs.parts.part_at.Goals as goal

pub overflow_sub-result : goal.overflow_sub-result
overflow_sub-result g c =
    let e = ap g.P.Part.reading (sym c.new-cursor.ensures) ∙ c.in-Ok.ensures in
    omega (arith, c.left.ensures, c.len-count.ensures.count, left_fits g.K.TokenKind.language c.args.tokens.now g.P.Part.reading g.met.P.TextPart.suffix c.args.from c.requires c.parse.new.tokens (ap rest_in e))

pub overflow_sub-count : goal.overflow_sub-count
overflow_sub-count g c =
    let e = ap g.P.Part.reading (sym c.new-cursor.ensures) ∙ rw c.in-Err-Syntax.field-0-is at c.in-Err-Syntax.ensures in
    omega (arith, c.left-in-Err-Syntax.ensures, c.len-count.ensures.count, left_fits g.K.TokenKind.language c.args.tokens.now g.P.Part.reading g.met.P.TextPart.suffix c.args.from c.requires c.parse.new.tokens (ap rest_in e))

pub returns-in-Ok-clause-found : goal.returns-in-Ok-clause-found
returns-in-Ok-clause-found g c =
    rw (c.left.ensures, c.len-count.ensures.count)
    (found g.K.TokenKind.language c.args.tokens.now g.P.Part.reading g.met.P.TextPart.suffix c.args.from c.requires c.parse.new.tokens c.in-Ok.part (ap g.P.Part.reading (sym c.new-cursor.ensures) ∙ c.in-Ok.ensures))

pub returns-in-Err-Syntax-clause-found : goal.returns-in-Err-Syntax-clause-found
returns-in-Err-Syntax-clause-found g c =
    rw (c.syntax_at.ensures, c.left-in-Err-Syntax.ensures, c.len-count.ensures.count)
    (failed g.K.TokenKind.language c.args.tokens.now g.P.Part.reading g.met.P.TextPart.suffix c.args.from c.requires c.parse.new.tokens
    (ap g.P.Part.reading (sym c.new-cursor.ensures) ∙ rw c.in-Err-Syntax.field-0-is at c.in-Err-Syntax.ensures))
