use Rattle.spf_lex.proofs.Alone.{same_front, no_fault}
use Rattle.spf_lex.proofs.grammar.front_is_exact.Goals as goal

pub returns-clause-one : goal.returns-clause-one
returns-clause-one g c = λ grammar a b rest left clear alone s t e. same_front g.K.TokenKind.same g.met.K.TokenKind.exact grammar clear alone a b rest left s t e

pub returns-clause-no_fault : goal.returns-clause-no_fault
returns-clause-no_fault g c = λ grammar front rest left clear alone s r. no_fault g.K.TokenKind.same g.met.K.TokenKind.exact grammar clear alone front rest left s r
