use Rattle.std.proofs.Common.{refl, sym, take, nat_le}
use Rattle.spf_lex.specs.declared.lexeme.Lexeme.TheVariants.{Word}
use Rattle.spf_lex.proofs.LexemeKinds.{found_with, word_lexeme}
use Rattle.spf_lex.proofs.Lexemes.{length_of_word, word_of_run}
use Rattle.spf_lex.proofs.lexeme.word_token.Goals as goal

pub returns : goal.returns
returns c =
    let text = c.args.text.now in
    let n = c.word_run-len.result in
    rw c.then_some.ensures
    (found_with text n Word (nat_le n 32) (length_of_word text n c.requires c.word_run-len.ensures _ refl)
    (λ token. sym (word_lexeme (take n text) (word_of_run text n c.requires c.word_run-len.ensures))))
