use Rattle.std.proofs.Common.{sym, take}
use Rattle.spf_lex.proofs.Lexemes.{symbol_at}
use Rattle.spf_lex.proofs.LexemeKinds.{symbol_lexeme}
use Rattle.spf_lex.proofs.lexeme.symbol_token.Goals as goal

pub returns : goal.returns
returns c =
    let text = c.args.text.now in
    let n = c.in_ok-len.len in
    record {
      token = c.in_ok-len.ensures;
      lexeme = sym (symbol_lexeme (take n text) (symbol_at text n c.requires.word c.requires.number c.in_ok-len.ensures.lexeme.stands));
    }
