use Rattle.std.proofs.Common.{rules}
use Rattle.std.proofs.lemmas.List.Sorted.{IsNonDecreasingBy-from_sort_by_key}
use Rattle.spf_seed.specs.declared.inverted.Entry.{Entry}
use Rattle.spf_seed.proofs.inverted.sort.Goals as goal

pub returns-clause-sorted : goal.returns-clause-sorted
returns-clause-sorted c = IsNonDecreasingBy-from_sort_by_key (λ (entry : Entry). entry.element) _ c.in_ok-sort_by_key.ensures.sorted (λ a r q k. search rules)
