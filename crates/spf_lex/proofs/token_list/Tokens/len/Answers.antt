use Rattle.std.proofs.Common.{arith}
use Rattle.spf_lex.proofs.Spans.{each_text, length-spans}
use Rattle.spf_lex.proofs.token_list.Tokens.len.Goals as goal

pub overflow_cast-result : goal.overflow_cast-result
overflow_cast-result c =
    omega (arith, length-spans c.self.invariant.tokenized.tokens, c.self.inside.spans.ok.0)

pub returns-clause-texts : goal.returns-clause-texts
returns-clause-texts c = rw (← c.self.view_is) (each_text _ _ c.self.invariant.tokenized.tokens)
