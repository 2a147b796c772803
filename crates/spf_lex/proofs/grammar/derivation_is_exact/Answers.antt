use Rattle.spf_lex.proofs.Derivations.{is_derivation}
use Rattle.spf_lex.proofs.Derived.{one_derivation}
use Rattle.spf_lex.proofs.grammar.derivation_is_exact.Goals as goal

pub returns-clause-derivation : goal.returns-clause-derivation
returns-clause-derivation g c = λ kind grammar tokens clear. is_derivation g.K.TokenKind.same g.met.K.TokenKind.exact kind grammar clear tokens

pub returns-clause-one : goal.returns-clause-one
returns-clause-one g c = λ kind grammar tokens a b clear s t. one_derivation kind g.K.TokenKind.same g.met.K.TokenKind.exact grammar clear tokens a b s t
