use Rattle.spf_kernel.proofs.Common.{texts, variables_in}
use Rattle.spf_kernel.proofs.check.name_rules.fits.Goals as goal

pub returns-then-brackets : goal.returns-then-brackets
returns-then-brackets c = λ facts e. rw c.if-brackets.true (c.fits_with_brackets.ensures facts (variables_in (texts c.args.tokens.now) c.args.scope) e)

pub returns-else-brackets : goal.returns-else-brackets
returns-else-brackets c = λ facts e. rw c.if-brackets.false (c.fits_bare.ensures facts c.args.spot e)
