use Rattle.std.proofs.Common.{sym, take, ap, ◌∙◌}
use Rattle.spf_lex.specs.declared.lexeme.Lexeme.TheVariants.{Number}
use Rattle.spf_lex.proofs.Lexemes.{no_number_token, number_token}
use Rattle.spf_lex.proofs.LexemeKinds.{number_lexeme}
use Rattle.spf_lex.proofs.lexeme.number_token.Goals as goal

pub returns-in_err-value : goal.returns-in_err-value
returns-in_err-value c = rw c.from_residual.ensures (no_number_token c.args.text.now c.digit_run-len.result c.requires c.digit_run-len.ensures c.in_err-value.ensures)

pub returns : goal.returns
returns c =
    let text = c.args.text.now in
    let n = c.digit_run-len.result in
    record {
      token = number_token text n c.requires c.digit_run-len.ensures c.in_ok-value.ensures.0.1;
      lexeme = ap Number c.in_ok-value.ensures.1 ∙ sym (number_lexeme (take n text) c.in_ok-value.ensures.0.0 c.in_ok-value.ensures.0.1);
    }
