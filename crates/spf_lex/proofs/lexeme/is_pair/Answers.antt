use Rattle.std.proofs.Common.{eqb}
use Rattle.std.proofs.lemmas.List.Elements.{contains_decides, Decides-contains}
use Rattle.std.proofs.lemmas.Bool.Decides.{Decides-eqb}
use Rattle.spf_lex.proofs.Symbols.{before_equals, before_equals_from_symbol, symbol_from_before_equals}
use Rattle.spf_lex.proofs.lexeme.is_pair.Goals as goal

pub returns-in-61 : goal.returns-in-61
returns-in-61 c =
    let a = c.args.first in
    let found = Decides-contains before_equals a _ (contains_decides eqb Decides-eqb before_equals a c.contains.result c.contains.ensures.cases) in
    rw (c.in-61.is) (λ yes. symbol_from_before_equals a (found.0 yes), λ symbol. found.1 (before_equals_from_symbol a symbol))
