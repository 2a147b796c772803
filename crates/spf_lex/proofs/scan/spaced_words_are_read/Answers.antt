use Rattle.spf_lex.proofs.Joining.{joined_spaced}
use Rattle.spf_lex.proofs.SpacedTokens.{spaced_tokens}
use Rattle.spf_lex.proofs.scan.spaced_words_are_read.Goals as goal

pub returns-clause-tokens : goal.returns-clause-tokens
returns-clause-tokens c = spaced_tokens

pub returns-clause-joined : goal.returns-clause-joined
returns-clause-joined c = joined_spaced
