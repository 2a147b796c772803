use Rattle.std.proofs.Common.{◌+◌, ◌∙◌, false, map, ap, sym, arith}
use Rattle.std.proofs.lemmas.List.{length-map}
use Rattle.spf_lex.specs.Lexeme.{lexeme_of}
use Rattle.spf_lex.specs.Tokens.{texts}
use Rattle.spf_input.specs.Given.{numbers_from}
use Rattle.spf_input.proofs.Slices.{range_none}
use Rattle.spf_input.proofs.lookup.numbers_of.Goals as goal

pub returns-else-entry-len-clause-numbers : goal.returns-else-entry-len-clause-numbers
returns-else-entry-len-clause-numbers c =
    let lexemes = map lexeme_of (texts c.args.tokens.now) in
    let many = length-map (texts c.args.tokens.now) lexeme_of in
    let to = c.args.entry.now.to in
    ap (numbers_from false) (range_none lexemes to to (omega arith) ∙ sym (range_none lexemes (c.args.entry.now.from + 1) to (omega arith)))
