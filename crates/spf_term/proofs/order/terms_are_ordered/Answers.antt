use Rattle.spf_term.proofs.Exact.{exact_term}
use Rattle.spf_term.proofs.OrderLaws.{terms_total}
use Rattle.spf_term.proofs.order.terms_are_ordered.Goals as goal

pub returns-clause-total : goal.returns-clause-total
returns-clause-total c = terms_total

pub returns-clause-exact : goal.returns-clause-exact
returns-clause-exact c a b is = exact_term a b is
