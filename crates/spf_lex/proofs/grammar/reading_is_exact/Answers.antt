use Rattle.spf_lex.proofs.Readings.{reading, whole}
use Rattle.spf_lex.proofs.grammar.reading_is_exact.Goals as goal

pub returns-clause-reading : goal.returns-clause-reading
returns-clause-reading g c = λ grammar kinds clear. reading g.K.TokenKind.same g.met.K.TokenKind.exact grammar clear kinds

pub returns-clause-whole : goal.returns-clause-whole
returns-clause-whole g c = λ grammar kinds clear. whole g.K.TokenKind.same g.met.K.TokenKind.exact grammar clear kinds
