use Rattle.std.proofs.Common.{rules}
use Rattle.std.proofs.lemmas.List.Sorted.{IsNonDecreasingBy-from_sort_by_key}
use Rattle.spf_space.specs.declared.in_order.Turn.{Turn}
use Rattle.spf_space.proofs.in_order.sort.Goals as goal

pub returns-clause-sorted : goal.returns-clause-sorted
returns-clause-sorted c = IsNonDecreasingBy-from_sort_by_key (λ (turn : Turn). turn.number) _ c.sort_unstable_by_key.ensures.sorted (λ a r q k. search rules)
