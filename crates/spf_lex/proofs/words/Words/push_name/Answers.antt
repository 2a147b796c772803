use Rattle.spf_lex.proofs.Written.{word_has_no_blank}
use Rattle.spf_lex.proofs.words.Words.push_name.Goals as goal

pub push-requires : goal.push-requires
push-requires c = word_has_no_blank _ c.bytes.ensures.name.word
