use Rattle.spf_term.proofs.Sizes.{term_small}
use Rattle.spf_term.proofs.bounded.bounded_terms_are_small.Goals as goal

pub returns : goal.returns
returns c env variables term small bounded = term_small env variables small term bounded
