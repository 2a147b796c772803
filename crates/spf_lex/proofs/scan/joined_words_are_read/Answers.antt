use Rattle.spf_lex.proofs.Joining.{joined_tokens, joined_tokenized}
use Rattle.spf_lex.proofs.Written.{decimal_token}
use Rattle.spf_lex.proofs.scan.joined_words_are_read.Goals as goal

pub returns-clause-read : goal.returns-clause-read
returns-clause-read c = joined_tokenized

pub returns-clause-tokens : goal.returns-clause-tokens
returns-clause-tokens c = joined_tokens

pub returns-clause-number : goal.returns-clause-number
returns-clause-number c = decimal_token
