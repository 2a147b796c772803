use Rattle.std.proofs.Common.{refl}
use Rattle.spf_lex.proofs.words.Words.new.Goals as goal

pub returns : goal.returns
unfolding Rattle.spf_lex.specs.Joined.split
returns c = rw c.new.ensures.items refl
