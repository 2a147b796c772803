use Rattle.std.proofs.Common.{◌<◌, ◌^◌, subst, sym}
use Rattle.spf_term.specs.declared.term.Term.{Term}
use Rattle.spf_term.specs.Value.{applications}
use Rattle.spf_loop_tests.proofs.SmallTerms.{small_pair, pair_is_short, as_is}
use Rattle.spf_loop_tests.proofs.term.an_argument_is_told_first_and_names_are_numbered_in_order.Goals as goal

pub applications-requires : goal.applications-requires
applications-requires g c = subst (λ (term : Term). applications term < 2 ^ 32) (sym c.in_ok-term.ensures) pair_is_short

pub walk-requires-clause-small : goal.walk-requires-clause-small
walk-requires-clause-small g c = as_is c.in_ok-env.ensures c.in_ok-term.ensures small_pair
