use Rattle.std.proofs.Common.{eqb}
use Rattle.std.proofs.lemmas.List.Elements.{contains_decides, Decides-contains}
use Rattle.std.proofs.lemmas.Bool.Decides.{Decides-eqb}
use Rattle.spf_lex.proofs.Symbols.{marks, mark_from_symbol, symbol_from_mark}
use Rattle.spf_lex.proofs.lexeme.is_mark.Goals as goal

pub returns : goal.returns
returns c =
    let b = c.args.byte in
    let found = Decides-contains marks b _ (contains_decides eqb Decides-eqb marks b c.contains.result c.contains.ensures.cases) in
    (λ yes. symbol_from_mark b (found.0 yes), λ symbol. found.1 (mark_from_symbol b symbol))
