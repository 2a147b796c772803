use Rattle.spf_lex.proofs.Written.{text_joined}
use Rattle.spf_lex.proofs.words.Words.into_text.Goals as goal

pub returns : goal.returns
returns c = let e = text_joined c.self.inside.text.items c.self.invariant in cc (c.pop.ensures.rest, c.self.view_is)
