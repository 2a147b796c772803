use Rattle.std.proofs.Common.{rules, [], slice_index_or}
use Rattle.std.specs.Cmp.Lexicographic.{slice_cmp}
use Rattle.std.specs.Ordering.{is_lt, nat_cmp}
use Rattle.std.proofs.lemmas.Cmp.{nat_list_cmp_total}
use Rattle.std.proofs.lemmas.Fn.{always_returns_same}
use Rattle.std.proofs.lemmas.List.Sorted.{ranks_by}
use Rattle.spf_group.proofs.keys.Keys.sort.Goals as goal

pub returns-clause-sorted : goal.returns-clause-sorted
returns-clause-sorted c =
    c.in_ok-sort_by.ensures.sorted (λ x y. is_lt (slice_cmp nat_cmp (slice_index_or c.args.self.now x []) (slice_index_or c.args.self.now y [])))
    (ranks_by nat_list_cmp_total (λ x. slice_index_or c.args.self.now x [])) (always_returns_same _ _ _ (λ a r f h. search rules))

pub returns-clause-stable : goal.returns-clause-stable
returns-clause-stable c =
    c.sort_by.ensures.stable (λ x y. is_lt (slice_cmp nat_cmp (slice_index_or c.args.self.now x []) (slice_index_or c.args.self.now y [])))
    (ranks_by nat_list_cmp_total (λ x. slice_index_or c.args.self.now x [])) (always_returns_same _ _ _ (λ a r f h. search rules))
