use Rattle.std.proofs.Common.{refl}
use Rattle.std.proofs.lemmas.Bool.{false≢true}
use Rattle.spf_lex.proofs.Lexemes.{pair_token, mark_token, no_symbol_token}
use Rattle.spf_lex.proofs.lexeme.symbol_len.Goals as goal

pub returns-then-begins_pair : goal.returns-then-begins_pair
returns-then-begins_pair c =
    let pair = c.if-begins_pair.ensures.0 refl in
    pair_token _ c.requires.word c.requires.number pair.0 pair.1

pub returns-then-begins_mark : goal.returns-then-begins_mark
returns-then-begins_mark c =
    let mark = c.if-begins_mark.ensures.0 refl in
    mark_token _ c.requires.word c.requires.number mark.0 mark.1 (λ pair. false≢true (c.if-begins_pair.ensures.1 pair))

pub returns-else-begins_mark : goal.returns-else-begins_mark
returns-else-begins_mark c =
    no_symbol_token _ c.requires.word c.requires.number (λ mark. false≢true (c.if-begins_mark.ensures.1 mark)) (λ pair. false≢true (c.if-begins_pair.ensures.1 pair))
