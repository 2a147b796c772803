use Rattle.std.proofs.Common.{arith}
use Rattle.spf_lex.proofs.Written.{decimal_has_no_blank}
use Rattle.spf_lex.proofs.words.Words.push_number.Goals as goal

pub push-requires : goal.push-requires
push-requires c = rw (c.as_bytes.ensures.value, c.format.ensures.text) (decimal_has_no_blank c.args.number (omega arith))
